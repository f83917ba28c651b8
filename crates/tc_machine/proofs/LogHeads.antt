-- A whole log is open, and has its header.
use Rattle.std.proofs.Common.{◌≡◌, ℕ, true, List, [], ◌∷◌, refl}
use Rattle.tc_plain_model.specs.Writes.{Write}
use Rattle.tc_lsm_model.specs.Contents.{Partition}
use Rattle.tc_store.specs.Gate.{is_open_file}
use Rattle.tc_log.specs.Reading.{front_of}
use Rattle.tc_log.specs.Spelling.{IsHead, log_at_rest}
use Rattle.tc_log.proofs.Logs.{named_front, named_judged}
use Rattle.tc_machine.specs.Logs.{HasLogHead, IsLog, log_head}

pub log_is_open : (part : Partition) (g : ℕ) (ws : List Write) (bytes : List ℕ) → IsLog part g ws bytes → is_open_file bytes ≡ true
log_is_open part g ws bytes is = rw is.spells.spelled refl

pub log_has_head : (part : Partition) (g : ℕ) (ws : List Write) (bytes : List ℕ) → IsLog part g ws bytes → HasLogHead part g bytes
log_has_head part g ws bytes is =
    named_judged g (front_of bytes) (log_head part g) (named_front bytes (log_head part g) is.frames is.spells)

pub new_log : (part : Partition) (g : ℕ) → IsHead (log_head part g) → IsLog part g [] (log_at_rest (log_head part g) [])
new_log part g is = record {
  frames = [];
  spells = record { head_is = is; each = tt; rest = 0 ∷ []; shut = λ e. absurd (cc); spelled = refl };
  all_are = refl;
}
