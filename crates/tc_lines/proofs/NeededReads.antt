-- Reads that were needed, one after the other, and that they were prompt.
use Rattle.std.proofs.Common.{◌≡◌, ℕ, List, [], ◌∷◌, ◌++◌, Option, refl, ap, ◌∙◌, subst, sym}
use Rattle.tc_edge.specs.Moments.{Moment, ArePrompt, GavePromptly, all_given, one_read, with_further}
use Rattle.tc_edge.proofs.Moments.{with_further-nil, with_further-trans, all_given-append}
use Rattle.tc_model.specs.Lines.{whole_lines}
use Rattle.tc_lines.specs.Needed.{AreNeeded, HasReadNeeded}

-- one more read, where there was no whole line
pub needed_once_more : (held : List ℕ) (accepted : Option (List ℕ)) (input bytes : List ℕ) (told told' told'' : Option (List Moment)) → HasReadNeeded held accepted input told told'
    → whole_lines (held ++ input) ≡ [] → told'' ≡ with_further (one_read accepted bytes) told' → HasReadNeeded held accepted (input ++ bytes) told told''
needed_once_more held accepted input bytes told told' told'' reads none read = record {
  further = one_read accepted bytes ++ reads.further;
  moments = with_further-trans told told' told'' reads.further (one_read accepted bytes) reads.moments read;
  given = ap (λ bs. bs ++ bytes) reads.given;
  needed = (ap (λ bs. whole_lines (held ++ bs)) reads.given ∙ none, refl, reads.needed);
}

-- Where nothing more is due before a further whole line than the sink has accepted, reads that were needed are prompt.
needed_are_prompt : (due : List ℕ → Option (List ℕ) → Type 0) (held : List ℕ) (accepted : Option (List ℕ)) (further before : List Moment) → AreNeeded held accepted further
    → ((given : List ℕ) → whole_lines (held ++ given) ≡ [] → due (all_given before ++ given) accepted) → ArePrompt due before → ArePrompt due (further ++ before)
needed_are_prompt due held accepted [] before needed is_due prompt = prompt
needed_are_prompt due held accepted (moment ∷ further) before needed is_due prompt = (
  subst (due (all_given (further ++ before))) (sym needed.1)
      (subst (λ given. due given accepted) (sym (all_given-append further before)) (is_due (all_given further) needed.0)),
  needed_are_prompt due held accepted further before needed.2 is_due prompt,
)

-- before the first read
pub begins_promptly : (due : List ℕ → Option (List ℕ) → Type 0) (told : Option (List Moment)) → GavePromptly due [] told told
begins_promptly due told = record { further = []; moments = with_further-nil told; given = refl; prompt = tt }

-- what a reader of lines read behind reads that were prompt
pub goes_on_promptly : (due : List ℕ → Option (List ℕ) → Type 0) (input now held : List ℕ) (accepted : Option (List ℕ)) (told told' told'' : Option (List Moment)) → GavePromptly due input told told'
    → HasReadNeeded held accepted now told' told'' → ((given : List ℕ) → whole_lines (held ++ given) ≡ [] → due (input ++ given) accepted)
    → GavePromptly due (input ++ now) told told''
goes_on_promptly due input now held accepted told told' told'' gave reads is_due = record {
  further = reads.further ++ gave.further;
  moments = with_further-trans told told' told'' gave.further reads.further gave.moments reads.moments;
  given = all_given-append reads.further gave.further ∙ ap (λ bs. bs ++ all_given reads.further) gave.given ∙ ap (λ bs. input ++ bs) reads.given;
  prompt = needed_are_prompt due held accepted reads.further gave.further reads.needed
      (λ given none. subst (λ bs. due (bs ++ given) accepted) (sym gave.given) (is_due given none)) gave.prompt;
}
