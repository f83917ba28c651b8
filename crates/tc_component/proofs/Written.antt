-- What stands in a component while it is written.
use Rattle.std.proofs.Common.{◌≡◌, ◌∙◌, ◌<◌, ◌+◌, ◌-◌, ◌*◌, ◌/◌, ◌^◌, ℕ, List, [], ◌∷◌, ◌++◌, Option, None, Some, option_map, length, replicate, refl, sym, ap, arith, append_assoc, append-nil, length-append, Result, Ok, Err}
use Rattle.std.specs.Prelude.{IfSome, OnOk}
use Rattle.std.proofs.lemmas.List.Sums.{sum_by-append}
use Rattle.std.proofs.lemmas.List.Concat.{flat_map-append}
use Rattle.tc_model.specs.Document.{Name}
use Rattle.tc_names.specs.Section.{section}
use Rattle.tc_schema_model.specs.Counted.{Counted}
use Rattle.tc_schema_model.specs.SchemaTree.{schema_tree}
use Rattle.tc_schema_model.specs.SchemaBytes.{schema_bytes}
use Rattle.tc_store.specs.DiskFile.{DiskFile, overlaid, written}
use Rattle.tc_store.specs.Gate.{opened}
use Rattle.tc_store.specs.Moments.{goes_on, IfTold}
use Rattle.tc_component.specs.declared.head.Head.{Head}
use Rattle.tc_component.specs.declared.slot.Slot.{Slot}
use Rattle.tc_component.specs.Building.{IsWrittenRecord, Spools, unheaded, sizes_written}
use Rattle.tc_component.specs.Spelling.{head_bytes, Row, held_bytes, records, slot_bytes, slots_of, directory, lengths_of, sizes_of, file_bytes_as}

-- ---- one entry more

pub pushed_slots : (rows : List Row) (key : ℕ) (held : Option (List ℕ))
    → directory (slots_of rows) ++ slot_bytes (record { key = key; length = length (held_bytes held) }) ≡ directory (slots_of (rows ++ (key, held) ∷ []))
pushed_slots [] key held = sym (append-nil (slot_bytes (record { key = key; length = length (held_bytes held) })))
pushed_slots (row ∷ rows) key held =
    let first = slot_bytes (record { key = row.0; length = length (held_bytes row.1) }) in
    append_assoc first (directory (slots_of rows)) (slot_bytes (record { key = key; length = length (held_bytes held) })) ∙ ap (λ (bytes : List ℕ). first ++ bytes) (pushed_slots rows key held)

pub pushed_records : (rows : List Row) (key : ℕ) (held : Option (List ℕ)) → unheaded (records rows) ++ held_bytes held ≡ unheaded (records (rows ++ (key, held) ∷ []))
pushed_records rows key held =
    ap (λ (bytes : List ℕ). 0 ∷ bytes) (append_assoc (replicate 60 0) (records rows) (held_bytes held)
    ∙ ap (λ (bytes : List ℕ). replicate 60 0 ++ bytes) (sym (flat_map-append (λ (row : Row). held_bytes row.1) rows ((key, held) ∷ []) ∙ ap (λ (bytes : List ℕ). records rows ++ bytes) (append-nil (held_bytes held)))))

-- what is pushed is short enough for its slot
pub written_short : {S : Type 0} (now : S → List ℕ) (o : Option S) → IfSome o (λ s. IsWrittenRecord (now s)) → length (held_bytes (option_map now o)) < 2 ^ 32
written_short now None is = omega arith
written_short now (Some s) is = is.1.short

-- ---- the whole file

pub directory_length : (slots : List Slot) → length (directory slots) ≡ length slots * 12
directory_length [] = refl
directory_length (s ∷ slots) =
    let one : length (slot_bytes s) ≡ 12 = refl in omega (arith, length-append (slot_bytes s) (directory slots), one, directory_length slots)

pub records_length : (rows : List Row) → lengths_of (slots_of rows) ≡ length (records rows)
records_length [] = refl
records_length (row ∷ rows) =
    let first : Slot = record { key = row.0; length = length (held_bytes row.1) } in
    let more : lengths_of (slots_of (row ∷ rows)) ≡ lengths_of (first ∷ []) + lengths_of (slots_of rows) = sum_by-append (λ (s : Slot). s.length) (first ∷ []) (slots_of rows) in
    omega (arith, more, records_length rows, length-append (held_bytes row.1) (records rows))

-- what holds once a call was done
pub on_ok : {E : Type 0} (r : Result (Unit {0}) E) (P Q : Type 0) → (P → Q) → OnOk r P → OnOk r Q
on_ok (Ok done) P Q go holds = go holds
on_ok (Err fault) P Q go holds = tt

-- the header is laid over the room for it, and the gate is opened
headed : (front rs ds ns ss : List ℕ) → length front ≡ 60 → opened (overlaid 1 front (((unheaded rs ++ ds) ++ ns) ++ ss)) ≡ 1 ∷ (front ++ (rs ++ (ds ++ (ns ++ ss))))
headed front rs ds ns ss sixty =
    let zeros : List ℕ = replicate 60 0 in
    let grouped : ((unheaded rs ++ ds) ++ ns) ++ ss ≡ 0 ∷ (zeros ++ (rs ++ (ds ++ (ns ++ ss)))) =
    append_assoc (unheaded rs ++ ds) ns ss ∙ append_assoc (unheaded rs) ds (ns ++ ss) ∙ ap (λ (bytes : List ℕ). 0 ∷ bytes) (append_assoc zeros rs (ds ++ (ns ++ ss))) in
    rw (grouped, sixty) refl

-- the sizes that a header gets are those of what was written
written_sizes : (rows : List Row) (names : List Name) (schema : Counted) (end : ℕ) (waiting dir sec sch : List ℕ) → dir ≡ directory (slots_of rows) → sec ≡ section names → sch ≡ schema_bytes (schema_tree schema)
    → end + length waiting ≡ 61 + length (records rows)
    → sizes_written (end + length waiting - 61) dir sec sch ≡ sizes_of (slots_of rows) names schema
written_sizes rows names schema end waiting dir sec sch is_dir is_sec is_sch all =
    let one : end + length waiting - 61 ≡ lengths_of (slots_of rows) = omega (arith, all, records_length rows) in
    let two : length dir / 12 ≡ length (slots_of rows) = omega (arith, ap length is_dir, directory_length (slots_of rows)) in
    rw (one, two, is_sec, is_sch) refl

pub rest_told : (old flushed new : List DiskFile) (size end : ℕ) (waiting dir sec sch front : List ℕ) (version : ℕ) (head : Head) (rows : List Row) (names : List Name) (schema : Counted)
    → (old ≡ [] → new ≡ []) → end ≡ size → IfTold old (λ f. size ≡ length f.content) → Spools old waiting (unheaded (records rows))
    → dir ≡ directory (slots_of rows) → sec ≡ section names → sch ≡ schema_bytes (schema_tree schema)
    → front ≡ head_bytes version head (sizes_written (end + length waiting - 61) dir sec sch)
    → Spools flushed [] (((unheaded (records rows) ++ dir) ++ sec) ++ sch) → new ≡ goes_on (written 1 front) flushed
    → IfTold new (λ f. opened f.content ≡ file_bytes_as version head rows names schema)
rest_told [] flushed new size end waiting dir sec sch front version head rows names schema untold sized told spooled is_dir is_sec is_sch is_front last is_new = rw (untold refl) tt
rest_told (f ∷ past) [] new size end waiting dir sec sch front version head rows names schema untold sized told spooled is_dir is_sec is_sch is_front last is_new = rw is_new tt
rest_told (f ∷ past) (g ∷ later) new size end waiting dir sec sch front version head rows names schema untold sized told spooled is_dir is_sec is_sch is_front last is_new =
    let all : end + length waiting ≡ 61 + length (records rows) = omega (arith, sized, told, ap length spooled, length-append f.content waiting) in
    let sizes = written_sizes rows names schema end waiting dir sec sch is_dir is_sec is_sch all in
    let front_is : front ≡ head_bytes version head (sizes_of (slots_of rows) names schema) = is_front ∙ ap (head_bytes version head) sizes in
    let content : g.content ≡ ((unheaded (records rows) ++ dir) ++ sec) ++ sch = sym (append-nil g.content) ∙ last in
    rw is_new (ap (λ (bytes : List ℕ). opened (overlaid 1 front bytes)) content ∙ headed front (records rows) dir sec sch (ap length front_is)
    ∙ rw (front_is, is_dir, is_sec, is_sch) refl)
