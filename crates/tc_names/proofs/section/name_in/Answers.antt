use Rattle.std.proofs.Common.{ap, None, Some, if◌then◌else◌}
use Rattle.std.specs.Str.{is_utf8}
use Rattle.std.proofs.lemmas.Str.{IsUtf8-from_is_utf8, is_utf8-from_IsUtf8}
use Rattle.std.proofs.lemmas.Bool.{false_from_ne_true}
use Rattle.tc_bytes.specs.Reading.{◌>>=◌}
use Rattle.tc_names.proofs.section.name_in.Goals as goal

pub returns-in-Ok-clause-name : goal.returns-in-Ok-clause-name
returns-in-Ok-clause-name c =
    let h = c.in-Ok.ensures.cases in
    let passes = is_utf8-from_IsUtf8 c.in_ok-text.text.now h.1 in
    let read = ap (λ r. r >>= λ x. if is_utf8 x.0 then Some x else None) c.in_ok-text.ensures.value in
    rw h.0 (rw passes at read)

pub returns-in-Err-clause-name : goal.returns-in-Err-clause-name
returns-in-Err-clause-name c =
    let h = c.in-Err.ensures.cases in
    let fails = false_from_ne_true (is_utf8 c.in_ok-text.text.now) (λ yes. h.0 (IsUtf8-from_is_utf8 c.in_ok-text.text.now yes)) in
    let read = ap (λ r. r >>= λ x. if is_utf8 x.0 then Some x else None) c.in_ok-text.ensures.value in
    rw fails at read
