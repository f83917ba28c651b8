-- Which fault of an audit is which.
use Rattle.tc_audit.specs.declared.fault.AuditFault.{AuditFault}
use Rattle.tc_audit.specs.declared.fault.AuditFault.TheVariants as audit
use Rattle.tc_check.specs.declared.fault.CheckFault.{CheckFault}
use Rattle.tc_check.specs.declared.fault.CheckFault.TheVariants.{Disk, Memory}

abbrev pub of_audit : AuditFault → CheckFault
of_audit audit.Disk = Disk
of_audit audit.Memory = Memory
