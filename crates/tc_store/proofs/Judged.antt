-- What follows from how bytes are judged.
use Rattle.std.proofs.Common.{◌≡◌, ℕ, List, Option, None, Some, Result, Ok, Err, refl, sym, ap, subst}
use Rattle.std.specs.Prelude.{IfSome}
use Rattle.tc_store.specs.declared.damage.ReadFault.{ReadFault}
use Rattle.tc_store.specs.declared.damage.ReadFault.TheVariants.{Disk, Damaged, Memory}
use Rattle.tc_store.specs.Judging.{Damage, or_damage, judged_then, Judges}

-- what goes on from what was judged right
pub judged_parts : {A B : Type 0} (first : Result A Damage) (second : A → Result B Damage) (y : B) → judged_then first second ≡ Ok y → (x : A) × (first ≡ Ok x) × (second x ≡ Ok y)
judged_parts (Ok x) second y judged = (x, refl, judged)
judged_parts (Err d) second y judged = cc

pub or_damage_parts : {A : Type 0} (o : Option A) (d : Damage) (x : A) → or_damage o d ≡ Ok x → o ≡ Some x
or_damage_parts (Some y) d x judged = let same : y ≡ x = cc in ap Some same
or_damage_parts None d x judged = cc

pub same_Ok : {A : Type 0} (x y : A) → ◌≡◌ {A = Result A Damage} (Ok x) (Ok y) → x ≡ y
same_Ok x y same = cc

-- a fault is the same through another view
judges_same : {X Y Z : Type 0} (view : X → Y) (other : Z → Y) (j : Result Y Damage) (fault : ReadFault) → Judges view (Err fault) j → Judges other (Err fault) j
judges_same view other j Disk judges = tt
judges_same view other j Memory judges = tt
judges_same view other j (Damaged place kept) judges = judges

-- what a `?` hands on
pub judges_out : {X Y Z : Type 0} (view : X → Y) (other : Z → Y) (j : Result Y Damage) (r : Result X ReadFault) (fault : ReadFault) (s : Result Z ReadFault) → r ≡ Err fault → (y : ReadFault) × (s ≡ Err y) × (y ≡ fault) → Judges view r j → Judges other s j
judges_out view other j r fault s was p judges = rw (p.1, p.2) (judges_same view other j fault (rw was at judges))

-- what holds of the bytes that were read holds of the content, if it is told
pub of_content : (content : Option (List ℕ)) (items : List ℕ) (P : List ℕ → Type 0) → IfSome content (λ bytes. items ≡ bytes) → P items → IfSome content P
of_content None items P same holds = tt
of_content (Some bytes) items P same holds = subst P same holds

-- what is known of the content, too
pub of_open_content : (content : Option (List ℕ)) (items : List ℕ) (Q P : List ℕ → Type 0) → IfSome content (λ bytes. items ≡ bytes) → IfSome content Q → (Q items → P items) → IfSome content P
of_open_content None items Q P same known gives = tt
of_open_content (Some bytes) items Q P same known gives = subst P same (gives (subst Q (sym same) known))
