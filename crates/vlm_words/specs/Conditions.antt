-- The numbers and names of the conditions. The numbers are this project's own.
use Rattle.std.specs.Prelude.{ℕ, List, codes}
use Rattle.vlm_words.specs.declared.conditions.Cond.{Cond}
use Rattle.vlm_words.specs.declared.conditions.Cond.TheVariants.{Normal, Synch, Notqueued, Abort, Cancel, Deadlock}
use Rattle.vlm_words.specs.declared.conditions.Cond.TheVariants.{Valnotvalid, Cancelgrant, Sublocks, Ivlockid}
use Rattle.vlm_words.specs.declared.conditions.Cond.TheVariants.{Cvtungrant, Parnotgrant, Exdepth, Exenqlm, Nolockid}
use Rattle.vlm_words.specs.declared.conditions.Cond.TheVariants.{Insfmem, Ivbuflen, Badparam, Unsupported, Nosyslck}
use Rattle.vlm_words.specs.declared.conditions.Cond.TheVariants.{Accvio, Nonexpr, Departed, Widenotvalid}

-- the number of a condition, as a status block holds it
abbrev pub condition_number : Cond → ℕ
condition_number Normal = 1
condition_number Synch = 2
condition_number Notqueued = 3
condition_number Abort = 4
condition_number Cancel = 5
condition_number Deadlock = 6
condition_number Valnotvalid = 7
condition_number Cancelgrant = 8
condition_number Sublocks = 9
condition_number Ivlockid = 10
condition_number Cvtungrant = 11
condition_number Parnotgrant = 12
condition_number Exdepth = 13
condition_number Exenqlm = 14
condition_number Nolockid = 15
condition_number Insfmem = 16
condition_number Ivbuflen = 17
condition_number Badparam = 18
condition_number Unsupported = 19
condition_number Nosyslck = 20
condition_number Accvio = 21
condition_number Nonexpr = 22
condition_number Departed = 23
condition_number Widenotvalid = 24

-- the name of a condition, as it is printed
abbrev pub condition_name : Cond → List ℕ
condition_name Normal = codes "NORMAL"
condition_name Synch = codes "SYNCH"
condition_name Notqueued = codes "NOTQUEUED"
condition_name Abort = codes "ABORT"
condition_name Cancel = codes "CANCEL"
condition_name Deadlock = codes "DEADLOCK"
condition_name Valnotvalid = codes "VALNOTVALID"
condition_name Cancelgrant = codes "CANCELGRANT"
condition_name Sublocks = codes "SUBLOCKS"
condition_name Ivlockid = codes "IVLOCKID"
condition_name Cvtungrant = codes "CVTUNGRANT"
condition_name Parnotgrant = codes "PARNOTGRANT"
condition_name Exdepth = codes "EXDEPTH"
condition_name Exenqlm = codes "EXENQLM"
condition_name Nolockid = codes "NOLOCKID"
condition_name Insfmem = codes "INSFMEM"
condition_name Ivbuflen = codes "IVBUFLEN"
condition_name Badparam = codes "BADPARAM"
condition_name Unsupported = codes "UNSUPPORTED"
condition_name Nosyslck = codes "NOSYSLCK"
condition_name Accvio = codes "ACCVIO"
condition_name Nonexpr = codes "NONEXPR"
condition_name Departed = codes "DEPARTED"
condition_name Widenotvalid = codes "WIDENOTVALID"
