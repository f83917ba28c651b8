-- The reads of a source, and what a sink had accepted when each of them was asked for.
use Rattle.std.specs.Prelude.{◌≡◌, ℕ, List, [], ◌∷◌, ◌++◌, Option, option_map}

-- A read that gave bytes, or the end: what the sink had accepted when it was asked for, and the bytes.
pub record Moment : Type 0 where
  pub accepted : Option (List ℕ)
  pub given : List ℕ

-- one read alone
abbrev pub one_read : Option (List ℕ) → List ℕ → List Moment
one_read accepted given = record { accepted = accepted; given = given } ∷ []

-- the bytes that reads gave, of which the newest stands first
abbrev pub all_given : List Moment → List ℕ
all_given [] = []
all_given (moment ∷ before) = all_given before ++ moment.given

-- The reads that are told, with further ones. What tells of no read goes on so.
abbrev pub with_further : List Moment → Option (List Moment) → Option (List Moment)
with_further further told = option_map (λ before. further ++ before) told

-- Each of these reads was asked for when what was due for the bytes given before it had been accepted.
abbrev pub ArePrompt : (List ℕ → Option (List ℕ) → Type 0) → List Moment → Type 0
ArePrompt due [] = Unit {0}
ArePrompt due (moment ∷ before) = due (all_given before) moment.accepted × ArePrompt due before

-- The reads from those told before on to those told now gave this input, and each was prompt.
pub record GavePromptly (due : List ℕ → Option (List ℕ) → Type 0) (input : List ℕ) (told told' : Option (List Moment)) : Type 0 where
  pub further : List Moment
  pub moments : told' ≡ with_further further told
  pub given : all_given further ≡ input
  pub prompt : ArePrompt due further

-- From the reads that were told on to those that are told now, each further one was prompt.
abbrev pub IsPrompt : (List ℕ → Option (List ℕ) → Type 0) → Option (List Moment) → Option (List Moment) → Type 0
IsPrompt due told told' = (input : List ℕ) × GavePromptly due input told told'
