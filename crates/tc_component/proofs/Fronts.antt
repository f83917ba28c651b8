-- What stands where the header of a file has its place.
use Rattle.std.proofs.Common.{◌≡◌, ◌∙◌, ◌-◌, ℕ, List, Option, None, Some, Result, Ok, Err, length, drop, take, min, ap, arith, Vec, [], ◌∷◌, refl, inl, inr}
use Rattle.std.specs.Prelude.{IfSome, IfOk}
use Rattle.std.specs.declared.alloc.Global.{Global}
use Rattle.std.proofs.lemmas.Bool.{cases_lt}
use Rattle.std.proofs.lemmas.List.{take_all}
use Rattle.tc_store.specs.declared.damage.ReadFault.{ReadFault}
use Rattle.tc_component.specs.Reading.{front_of}

take_fewer : (n : ℕ) (bytes : List ℕ) → take (min (length bytes) n) bytes ≡ take n bytes
take_fewer n bytes = elim (cases_lt n (length bytes)) [
  | inl more ↦ let same : min (length bytes) n ≡ n = omega (arith, more) in rw same refl
  | inr few ↦ let same : min (length bytes) n ≡ length bytes = omega (arith, few) in rw (same, take_all (length bytes) bytes (omega arith), take_all n bytes few) refl
]

-- the front of a file of this length
front_read : (content : Option (List ℕ)) (items : List ℕ) (size : ℕ) → IfSome content (λ bytes. size ≡ length bytes)
    → IfSome content (λ bytes. items ≡ take (min (size - min size 1) 60) (drop (min size 1) bytes)) → IfSome content (λ bytes. items ≡ front_of bytes)
front_read None items size sized read = tt
front_read (Some bytes) items size sized read = read ∙ ap (λ (n : ℕ). take (min (n - min n 1) 60) (drop (min n 1) bytes)) sized ∙ front_is bytes
  where
    front_is : (bytes : List ℕ) → take (min (length bytes - min (length bytes) 1) 60) (drop (min (length bytes) 1) bytes) ≡ front_of bytes
    front_is [] = refl
    front_is (b ∷ rest) =
        let one : min (length (b ∷ rest)) 1 ≡ 1 = omega arith in
        let behind : length (b ∷ rest) - 1 ≡ length rest = omega arith in
        rw (one, behind) (take_fewer 60 rest)

pub front_answers : (r : Result (Vec ℕ Global) ReadFault) (content : Option (List ℕ)) (size at count : ℕ) → IfSome content (λ bytes. size ≡ length bytes) → at ≡ min size 1 → count ≡ min (size - at) 60
    → IfOk r (λ read. IfSome content (λ bytes. read.items ≡ take count (drop at bytes))) → IfOk r (λ read. IfSome content (λ bytes. read.items ≡ front_of bytes))
front_answers (Ok read) content size at count sized at_is count_is reads = front_read content read.items size sized (rw (count_is, at_is) at reads)
front_answers (Err fault) content size at count sized at_is count_is reads = tt
