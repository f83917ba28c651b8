-- A log is laid behind no component, or behind one.
use Rattle.std.proofs.Common.{◌≡◌, ◌∙◌, ◌<◌, ◌+◌, ◌^◌, ◌++◌, ℕ, List, [], ◌∷◌, Ok, Err, Some, Result, ap, sym, subst, arith, false}
use Rattle.std.specs.Prelude.{IfOk}
use Rattle.std.specs.Result.{result_ok}
use Rattle.std.proofs.lemmas.List.Elements.{All-cons, All-nil}
use Rattle.std.proofs.lemmas.Option.{same_Some}
use Rattle.tc_store.specs.declared.damage.ReadFault.{ReadFault}
use Rattle.tc_store.specs.declared.file_name.FileName.TheVariants.{Component, Log}
use Rattle.tc_store.specs.declared.mem.device.MemDevice.{MemDevice}
use Rattle.tc_store.specs.declared.mem.frozen.MemFrozen.{MemFrozen}
use Rattle.tc_store.specs.Memory.Device.{device_name, device_size}
use Rattle.tc_store.specs.Memory.Frozen.{frozen_name}
use Rattle.tc_component.specs.declared.head.Head.{Head}
use Rattle.tc_component.specs.Loading.{ComponentState}
use Rattle.tc_component.specs.Spelling.{name_of}
use Rattle.tc_jobs.specs.Lists.{IsListOf, IsOf}
use Rattle.tc_log.specs.Appending.{LogState}
use Rattle.tc_log.specs.Layout.{empty_size}
use Rattle.part_rows.specs.Laying.{IsLaid}

pub behind_none : (log : LogState MemDevice) (list : List (ComponentState MemFrozen)) → list ≡ [] → log.failed ≡ false → device_size log.device ≡ empty_size → device_name log.device ≡ Log 1 → IsLaid log list
behind_none log list none sound empty name = subst (λ (l : List (ComponentState MemFrozen)). IsLaid log l) (sym none) (record {
  sound = sound;
  empty = empty;
  follows = name;
  last = omega arith;
  few = omega arith;
  listed = record { each = All-nil _; names = tt };
  named = All-nil _;
})

-- what a load says of what it read, where `ok` and `?` took that out
pub loaded : {A : Type 0} (P : A → Type 0) (read : Result A ReadFault) (a : A) → Some a ≡ result_ok read → IfOk read P → P a
loaded P (Ok x) a is holds = subst P (same_Some x a (sym is)) holds
loaded P (Err e) a is holds = cc

pub first_is : (h : Head) (to : ℕ) → Component 1 to ≡ name_of h → h.from ≡ 1
first_is h to is = cc

last_is : (h : Head) (to : ℕ) → Component 1 to ≡ name_of h → to ≡ h.to
last_is h to is = cc

pub behind_one : (log : LogState MemDevice) (list : List (ComponentState MemFrozen)) (c : ComponentState MemFrozen) (to : ℕ) → list ≡ c ∷ [] → Component 1 to ≡ name_of c.index.head → frozen_name c.file ≡ Component 1 to → IsListOf 0 1 list → to + 1 < 2 ^ 63
    → log.failed ≡ false → device_size log.device ≡ empty_size → device_name log.device ≡ Log (to + 1) → IsLaid log list
behind_one log list c to one is file listed low sound empty name =
    let same = last_is c.index.head to is in
    subst (λ (l : List (ComponentState MemFrozen)). IsLaid log l) (sym one) (record {
      sound = sound;
      empty = empty;
      follows = name ∙ ap (λ (n : ℕ). Log (n + 1)) same;
      last = subst (λ (n : ℕ). n + 1 < 2 ^ 63) same low;
      few = omega arith;
      listed = subst (λ (l : List (ComponentState MemFrozen)). IsListOf 0 1 l) one listed;
      named = All-cons (λ (x : ComponentState MemFrozen). frozen_name x.file ≡ name_of x.index.head) c [] (file ∙ is) (All-nil (λ (x : ComponentState MemFrozen). frozen_name x.file ≡ name_of x.index.head));
    })

-- what goes behind nothing is a list
pub one_listed : (before list : List (ComponentState MemFrozen)) (c : ComponentState MemFrozen) → before ≡ [] → list ≡ c ∷ []
    → ((number count : ℕ) → IsListOf number count before → IsOf number count c → IsListOf number count (before ++ c ∷ [])) → c.index.head.number ≡ 0
    → c.index.head.count ≡ 1 → IsListOf 0 1 list
one_listed before list c none one go number count =
    let nothing : IsListOf 0 1 before = subst (λ (l : List (ComponentState MemFrozen)). IsListOf 0 1 l) (sym none) (record { each = All-nil _; names = tt }) in
    subst (λ (l : List (ComponentState MemFrozen)). IsListOf 0 1 l) (ap (λ (l : List (ComponentState MemFrozen)). l ++ c ∷ []) none ∙ sym one) (go 0 1 nothing (number, count))
