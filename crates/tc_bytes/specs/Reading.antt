-- Reading from the front of a list of bytes: the value and the bytes after it, or nothing.
use Rattle.std.specs.Prelude.{ℕ, zero, suc, Bool, List, [], ◌∷◌, ◌++◌, Option, None, Some, length, take, drop, nat_lt, if◌then◌else◌}
use Rattle.std.specs.Int.{Width, w32, byte_len, from_be_bytes}

-- reads a value from the front, or finds that no value of the format stands there
abbrev pub Reader : Type 0 → Type 0
Reader A = List ℕ → Option (A × List ℕ)

-- what f makes of a value, and nothing where there is none
infixl 10 ◌>>=◌
abbrev pub ◌>>=◌ : {A B : Type 0} → Option A → (A → Option B) → Option B
(Some x) >>= f = f x
None >>= f = None

-- one byte
abbrev pub byte_at : Reader ℕ
byte_at [] = None
byte_at (b ∷ bytes) = Some (b, bytes)

-- a big-endian number of this width
abbrev pub number_at : Width → Reader ℕ
number_at w bytes = if nat_lt (length bytes) (byte_len w) then None else Some (from_be_bytes w (take (byte_len w) bytes), drop (byte_len w) bytes)

-- this many bytes
abbrev pub bytes_at : ℕ → Reader (List ℕ)
bytes_at n bytes = if nat_lt (length bytes) n then None else Some (take n bytes, drop n bytes)

-- bytes behind their number, which stands in four bytes
abbrev pub counted_bytes_at : Reader (List ℕ)
counted_bytes_at bytes = number_at w32 bytes >>= λ n. bytes_at n.0 n.1

-- what f makes of a value
abbrev pub mapped_at : {A B : Type 0} → (A → B) → Reader A → Reader B
mapped_at f read bytes = read bytes >>= λ x. Some (f x.0, x.1)

-- a value that passes a test
abbrev pub passing_at : {A : Type 0} → (A → Bool) → Reader A → Reader A
passing_at test read bytes = read bytes >>= λ x. if test x.0 then Some x else None

-- one value, and then another whose format may depend on the first
abbrev pub pair_at : {A B : Type 0} → Reader A → (A → Reader B) → Reader (A × B)
pair_at first second bytes = first bytes >>= λ x. second x.0 x.1 >>= λ y. Some ((x.0, y.0), y.1)

-- so many further elements behind those that are there, each of which may follow all before it
abbrev pub elements_at : {A : Type 0} → (List A → A → Bool) → Reader A → ℕ → List A → Reader (List A)
elements_at may_follow read zero before bytes = Some (before, bytes)
elements_at may_follow read (suc n) before bytes =
    read bytes >>= λ x. if may_follow before x.0 then elements_at may_follow read n (before ++ x.0 ∷ []) x.1 else None

-- a list of elements behind their number, which stands in four bytes
abbrev pub counted_list_at : {A : Type 0} → (List A → A → Bool) → Reader A → Reader (List A)
counted_list_at may_follow read bytes = number_at w32 bytes >>= λ n. elements_at may_follow read n.0 [] n.1

-- the value, where no byte is left
abbrev pub ended : {A : Type 0} → A × List ℕ → Option A
ended (x, []) = Some x
ended (x, b ∷ rest) = None

-- the value that all of the bytes spell
abbrev pub whole : {A : Type 0} → Reader A → List ℕ → Option A
whole read bytes = read bytes >>= ended
