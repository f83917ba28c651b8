-- The laws of headers: what is spelled is read, and what is read is spelled so.
use Rattle.std.proofs.Common.{◌≡◌, ◌∙◌, ◌<◌, ◌≤◌, ◌^◌, ℕ, true, List, ◌++◌, Some, refl, sym, ap, subst, arith, append_assoc}
use Rattle.std.specs.Int.{w32, w64, to_be_bytes}
use Rattle.std.proofs.lemmas.Bool.{eqb-true}
use Rattle.std.proofs.lemmas.Bool.Decides.{nat_tests}
use Rattle.std.proofs.lemmas.Option.{same_Some}
use Rattle.tc_bytes.specs.Codec.{IsBytes, IsCodec}
use Rattle.tc_bytes.specs.Reading.{number_at, passing_at}
use Rattle.tc_bytes.proofs.Codecs.{then_parts, passing_codec, pair_codec}
use Rattle.tc_bytes.proofs.Fields.{number_codec_32, number_codec_64}
use Rattle.tc_component.specs.Found.{AreSizes}
use Rattle.tc_component.specs.declared.head.Head.{Head}
use Rattle.tc_component.specs.declared.head.Sizes.{Sizes}
use Rattle.tc_component.specs.Layout.{number_end}
use Rattle.tc_component.specs.Spelling.{IsVersion, magic_of, sizes_bytes, head_bytes, IsHead}
use Rattle.tc_component.specs.Reading.{is_magic, is_interval, interval_at, sizes_at, head_at}
use Rattle.tc_component.proofs.Versions.{magic_small, magic_again}

-- ---- sizes

-- the fields of a header, one behind the other
sizes_parts : (sizes : Sizes) (rest : List ℕ) → sizes_bytes sizes ++ rest ≡ to_be_bytes w64 sizes.records ++ (to_be_bytes w64 sizes.entries ++ (to_be_bytes w64 sizes.names ++ (to_be_bytes w64 sizes.schema ++ rest)))
sizes_parts sizes rest =
    let r = to_be_bytes w64 sizes.records in let e = to_be_bytes w64 sizes.entries in let n = to_be_bytes w64 sizes.names in let s = to_be_bytes w64 sizes.schema in
    append_assoc r (e ++ (n ++ s)) rest ∙ ap (λ (bytes : List ℕ). r ++ bytes) (append_assoc e (n ++ s) rest ∙ ap (λ (bytes : List ℕ). e ++ bytes) (append_assoc n s rest))

head_parts : (version : ℕ) (head : Head) (sizes : Sizes) (rest : List ℕ)
    → head_bytes version head sizes ++ rest ≡ to_be_bytes w32 (magic_of version) ++ (to_be_bytes w32 head.number ++ (to_be_bytes w32 head.count ++ (to_be_bytes w64 head.from ++ (to_be_bytes w64 head.to ++ (sizes_bytes sizes ++ rest)))))
head_parts version head sizes rest =
    let m = to_be_bytes w32 (magic_of version) in let n = to_be_bytes w32 head.number in let c = to_be_bytes w32 head.count in let f = to_be_bytes w64 head.from in let t = to_be_bytes w64 head.to in let s = sizes_bytes sizes in
    append_assoc m (n ++ (c ++ (f ++ (t ++ s)))) rest ∙ ap (λ (bytes : List ℕ). m ++ bytes) (append_assoc n (c ++ (f ++ (t ++ s))) rest ∙ ap (λ (bytes : List ℕ). n ++ bytes) (append_assoc c (f ++ (t ++ s)) rest
    ∙ ap (λ (bytes : List ℕ). c ++ bytes) (append_assoc f (t ++ s) rest ∙ ap (λ (bytes : List ℕ). f ++ bytes) (append_assoc t s rest))))

SizesFound : List ℕ → Sizes × List ℕ → Type 0
SizesFound bytes q = (bytes ≡ sizes_bytes q.0 ++ q.1) × IsBytes q.1 × AreSizes q.0

sizes_found : (bytes : List ℕ) (q : Sizes × List ℕ) → IsBytes bytes → sizes_at bytes ≡ Some q → SizesFound bytes q
unfolding SizesFound
sizes_found bytes q each gives =
    let r = then_parts (number_at w64 bytes) _ q gives in
    let r_is = number_codec_64.found bytes r.0.0 r.0.1 each r.1 in
    let e = then_parts (number_at w64 r.0.1) _ q r.2 in
    let e_is = number_codec_64.found r.0.1 e.0.0 e.0.1 r_is.1 e.1 in
    let n = then_parts (number_at w64 e.0.1) _ q e.2 in
    let n_is = number_codec_64.found e.0.1 n.0.0 n.0.1 e_is.1 n.1 in
    let s = then_parts (number_at w64 n.0.1) _ q n.2 in
    let s_is = number_codec_64.found n.0.1 s.0.0 s.0.1 n_is.1 s.1 in
    let sizes : Sizes = record { records = r.0.0; entries = e.0.0; names = n.0.0; schema = s.0.0 } in
    subst (SizesFound bytes) (same_Some _ q s.2) (
      r_is.0 ∙ ap (λ (more : List ℕ). to_be_bytes w64 r.0.0 ++ more) (e_is.0 ∙ ap (λ (more : List ℕ). to_be_bytes w64 e.0.0 ++ more) (n_is.0 ∙ ap (λ (more : List ℕ). to_be_bytes w64 n.0.0 ++ more) s_is.0))
          ∙ sym (sizes_parts sizes s.0.1),
      s_is.1,
      record { records = r_is.2; entries = e_is.2; names = n_is.2; schema = s_is.2 },
    )

sizes_read : (bytes r s t rest : List ℕ) (sizes : Sizes) → number_at w64 bytes ≡ Some (sizes.records, r) → number_at w64 r ≡ Some (sizes.entries, s)
    → number_at w64 s ≡ Some (sizes.names, t) → number_at w64 t ≡ Some (sizes.schema, rest) → sizes_at bytes ≡ Some (sizes, rest)
sizes_read bytes r s t rest sizes one two three four = rw (one, two, three, four) refl

sizes_again : (sizes : Sizes) (rest : List ℕ) → AreSizes sizes → sizes_at (sizes_bytes sizes ++ rest) ≡ Some (sizes, rest)
sizes_again sizes rest is =
    let t = to_be_bytes w64 sizes.schema ++ rest in
    let s = to_be_bytes w64 sizes.names ++ t in
    let r = to_be_bytes w64 sizes.entries ++ s in
    ap sizes_at (sizes_parts sizes rest)
    ∙ sizes_read (to_be_bytes w64 sizes.records ++ r) r s t rest sizes (number_codec_64.again sizes.records r is.records) (number_codec_64.again sizes.entries s is.entries)
    (number_codec_64.again sizes.names t is.names) (number_codec_64.again sizes.schema rest is.schema)

-- ---- headers

interval_codec : IsCodec interval_at (λ i. to_be_bytes w64 i.0 ++ to_be_bytes w64 i.1) (λ i. ((i.0 < 2 ^ 64) × (i.1 < 2 ^ 64)) × (is_interval i ≡ true))
interval_codec = passing_codec is_interval (pair_codec number_codec_64 (λ from fits. number_codec_64))

interval_is : (from to : ℕ) → is_interval (from, to) ≡ true → (0 < from) × (from ≤ to) × (to < number_end)
interval_is from to is = grind (arith, nat_tests)

interval_test : (from to : ℕ) → 0 < from → from ≤ to → to < number_end → is_interval (from, to) ≡ true
interval_test from to first order last = grind (arith, nat_tests)

HeadFound : ℕ → List ℕ → (Head × Sizes) × List ℕ → Type 0
HeadFound version bytes q = (bytes ≡ head_bytes version q.0.0 q.0.1 ++ q.1) × IsBytes q.1 × (IsHead q.0.0 × AreSizes q.0.1)

head_found : (version : ℕ) (bytes : List ℕ) (q : (Head × Sizes) × List ℕ) → IsBytes bytes → head_at version bytes ≡ Some q → HeadFound version bytes q
unfolding HeadFound SizesFound
head_found version bytes q each gives =
    let m = then_parts (passing_at (is_magic version) (number_at w32) bytes) _ q gives in
    let m_is = (passing_codec (is_magic version) number_codec_32).found bytes m.0.0 m.0.1 each m.1 in
    let n = then_parts (number_at w32 m.0.1) _ q m.2 in
    let n_is = number_codec_32.found m.0.1 n.0.0 n.0.1 m_is.1 n.1 in
    let c = then_parts (number_at w32 n.0.1) _ q n.2 in
    let c_is = number_codec_32.found n.0.1 c.0.0 c.0.1 n_is.1 c.1 in
    let i = then_parts (interval_at c.0.1) _ q c.2 in
    let i_is = interval_codec.found c.0.1 i.0.0 i.0.1 c_is.1 i.1 in
    let s = then_parts (sizes_at i.0.1) _ q i.2 in
    let s_is = sizes_found i.0.1 s.0 i_is.1 s.1 in
    let within = interval_is i.0.0.0 i.0.0.1 i_is.2.1 in
    let behind : c.0.1 ≡ to_be_bytes w64 i.0.0.0 ++ (to_be_bytes w64 i.0.0.1 ++ (sizes_bytes s.0.0 ++ s.0.1)) =
    i_is.0 ∙ ap (λ (more : List ℕ). (to_be_bytes w64 i.0.0.0 ++ to_be_bytes w64 i.0.0.1) ++ more) s_is.0 ∙ append_assoc (to_be_bytes w64 i.0.0.0) (to_be_bytes w64 i.0.0.1) (sizes_bytes s.0.0 ++ s.0.1) in
    let all : bytes ≡ to_be_bytes w32 (magic_of version) ++ (to_be_bytes w32 n.0.0 ++ (to_be_bytes w32 c.0.0 ++ (to_be_bytes w64 i.0.0.0 ++ (to_be_bytes w64 i.0.0.1 ++ (sizes_bytes s.0.0 ++ s.0.1))))) =
    m_is.0 ∙ ap (λ (k : ℕ). to_be_bytes w32 k ++ m.0.1) (eqb-true m.0.0 (magic_of version) m_is.2.1)
    ∙ ap (λ (more : List ℕ). to_be_bytes w32 (magic_of version) ++ more) (n_is.0 ∙ ap (λ (more : List ℕ). to_be_bytes w32 n.0.0 ++ more) (c_is.0 ∙ ap (λ (more : List ℕ). to_be_bytes w32 c.0.0 ++ more) behind)) in
    let head : Head = record { number = n.0.0; count = c.0.0; from = i.0.0.0; to = i.0.0.1 } in
    subst (HeadFound version bytes) (same_Some _ q s.2) (
      all ∙ sym (head_parts version head s.0.0 s.0.1),
      s_is.1,
      (record { number = n_is.2; count = c_is.2; first = within.0; order = within.1; last = within.2 }, s_is.2),
    )

head_read : (version : ℕ) (bytes r s t u rest : List ℕ) (head : Head) (sizes : Sizes) → passing_at (is_magic version) (number_at w32) bytes ≡ Some (magic_of version, r) → number_at w32 r ≡ Some (head.number, s)
    → number_at w32 s ≡ Some (head.count, t) → interval_at t ≡ Some ((head.from, head.to), u) → sizes_at u ≡ Some (sizes, rest) → head_at version bytes ≡ Some ((head, sizes), rest)
head_read version bytes r s t u rest head sizes one two three four five = rw (one, two, three, four, five) refl

head_again : (version : ℕ) → IsVersion version → (h : Head × Sizes) (rest : List ℕ) → IsHead h.0 × AreSizes h.1 → head_at version (head_bytes version h.0 h.1 ++ rest) ≡ Some (h, rest)
head_again version told (head, sizes) rest is =
    let last = is.0.last in
    let order = is.0.order in
    let m = magic_of version in
    let u = sizes_bytes sizes ++ rest in
    let t = (to_be_bytes w64 head.from ++ to_be_bytes w64 head.to) ++ u in
    let s = to_be_bytes w32 head.count ++ t in
    let r = to_be_bytes w32 head.number ++ s in
    let joined : head_bytes version head sizes ++ rest ≡ to_be_bytes w32 m ++ r =
    head_parts version head sizes rest ∙ ap (λ (bytes : List ℕ). to_be_bytes w32 m ++ (to_be_bytes w32 head.number ++ (to_be_bytes w32 head.count ++ bytes))) (sym (append_assoc (to_be_bytes w64 head.from) (to_be_bytes w64 head.to) u)) in
    ap (head_at version) joined
    ∙ head_read version (to_be_bytes w32 m ++ r) r s t u rest head sizes ((passing_codec (is_magic version) number_codec_32).again m r (magic_small version told, magic_again version)) (number_codec_32.again head.number s is.0.number) (number_codec_32.again head.count t is.0.count)
    (interval_codec.again (head.from, head.to) u ((omega arith, omega arith), interval_test head.from head.to is.0.first order last)) (sizes_again sizes rest is.1)

pub head_codec : (version : ℕ) → IsVersion version → IsCodec (head_at version) (λ h. head_bytes version h.0 h.1) (λ h. IsHead h.0 × AreSizes h.1)
unfolding HeadFound
head_codec version told = record { found = λ bytes h rest each gives. head_found version bytes (h, rest) each gives; again = head_again version told }
