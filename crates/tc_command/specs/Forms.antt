-- What a borrowed form of a command means.
use Rattle.std.specs.Prelude.{IsTrue, Option, option_map}
use Rattle.serde_json.specs.Data as json
use Rattle.serde_json.specs.View.{view, items_view}
use Rattle.tc_model.specs.Json.{is_whole}
use Rattle.tc_request_model.specs.Request as request
use Rattle.tc_command.specs.declared.forms.AskForm.{AskForm}
use Rattle.tc_command.specs.declared.forms.Form.{Form}
use Rattle.tc_command.specs.declared.forms.Form.TheVariants.{Upsert, Delete, Get, Query, Flush, Schema, Scan, Collect}

abbrev pub ask_meant : (json.Items → Option json.Data → request.Form) → AskForm → request.Form
ask_meant form ask = form (items_view ask.path.now.items) (option_map (λ v. view v.now) ask.eq)

abbrev pub form_meant : Form → request.Form
form_meant (Upsert doc) = request.upsert_form (view doc.now)
form_meant (Delete id) = request.delete_form (view id.now)
form_meant (Get id) = request.get_form (view id.now)
form_meant (Query ask) = ask_meant request.query_form ask
form_meant Flush = request.flush_form
form_meant Schema = request.schema_form
form_meant (Scan ask) = ask_meant request.scan_form ask
form_meant Collect = request.collect_form

-- the path, where there is one, has whole numbers alone
abbrev pub HasWholePath : request.Form → Type 0
HasWholePath (request.query_form path eq) = IsTrue (is_whole (json.array path))
HasWholePath (request.scan_form path eq) = IsTrue (is_whole (json.array path))
HasWholePath _ = Unit {0}
