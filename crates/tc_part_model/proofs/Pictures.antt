-- Pictures beside the jobs look at no more of a state than its list, its tables, its jobs and its files.
use Rattle.std.proofs.Common.{◌≡◌, Bool, List, Option, false, subst}
use Rattle.tc_store.specs.Disk.{Disk, Picture}
use Rattle.tc_plain_model.specs.Writes.{Write}
use Rattle.tc_machine.specs.Beside.{IsPictureBeside}
use Rattle.tc_part_model.specs.PartView.{PartView, state_with}

pub same_beside : (p : PartView) (failed : Bool) (frame : Option (List Write)) (files other : Disk) (picture : Picture) → files ≡ other → IsPictureBeside p.part (state_with p false frame files) picture → IsPictureBeside p.part (state_with p failed frame other) picture
same_beside p failed frame files other picture same b =
    subst (λ fs. IsPictureBeside p.part (state_with p failed frame fs) picture) same (record { once = b.once; flush = b.flush; merge = b.merge; others = b.others })
