-- What a format is: how a value is spelled, and that it is read from that spelling alone.
use Rattle.std.specs.Prelude.{◌≡◌, ◌<◌, ℕ, Bool, true, List, [], ◌∷◌, ◌++◌, Option, None, Some, Result, Ok, Err, IsTrue, length, flat_map, slice_index}
use Rattle.std.specs.Int.{w32, to_be_bytes}
use Rattle.tc_bytes.specs.Reading.{Reader}

-- each number is a byte
abbrev pub IsBytes : List ℕ → Type 0
IsBytes bytes = (i : ℕ) → slice_index bytes i < 256

-- What is read is spelled so, byte for byte, and what is spelled so is read, whatever follows.
pub record IsCodec {A : Type 0} (read : Reader A) (spell : A → List ℕ) (Fits : A → Type 0) : Type 0 where
  pub found : (bytes : List ℕ) (x : A) (rest : List ℕ) → IsBytes bytes → read bytes ≡ Some (x, rest) → (bytes ≡ spell x ++ rest) × IsBytes rest × Fits x
  pub again : (x : A) (rest : List ℕ) → Fits x → read (spell x ++ rest) ≡ Some (x, rest)

-- bytes behind their number
abbrev pub counted_bytes : List ℕ → List ℕ
counted_bytes bytes = to_be_bytes w32 (length bytes) ++ bytes

-- the elements of a list, one after the other, behind their number
abbrev pub counted_list : {A : Type 0} → (A → List ℕ) → List A → List ℕ
counted_list spell xs = to_be_bytes w32 (length xs) ++ flat_map spell xs

-- each further element may follow all before it
abbrev pub MayFollow : {A : Type 0} → (List A → A → Bool) → List A → List A → Type 0
MayFollow may_follow before [] = Unit {0}
MayFollow may_follow before (x ∷ xs) = IsTrue (may_follow before x) × MayFollow may_follow (before ++ x ∷ []) xs

-- any element may follow
abbrev pub any_order : {A : Type 0} → List A → A → Bool
any_order before x = true

-- What a function returned, seen by view, is what reading gives. The fault `refusal` comes only where
-- reading gives nothing; of another fault, as want of memory, nothing is said.
abbrev pub Gives : {X Y E : Type 0} → (X → Y) → E → Result X E → Option Y → Type 0
Gives view refusal (Ok x) read = read ≡ Some (view x)
Gives view refusal (Err fault) read = fault ≡ refusal → read ≡ None
