-- `multipartner::slot_act::act_at` meets its contract: the entry, its file, and what it does.
-- Assumes nothing.
use Rattle.file.proofs.Bytes.{byte_at}
use Rattle.file.proofs.StoreLaws.{becomes-bytes}
use Rattle.multipartner.proofs.SlotActLaws.{accepted-low, entry-file, entry_reaches, entry_acted}
use Rattle.std.proofs.Common.{rules}
use Rattle.multipartner.proofs.slot_act.act_at.Goals as goal

pub keep_file-requires : goal.keep_file-requires
keep_file-requires c = search (rules, entry-file, byte_at, becomes-bytes)

pub slot_act-requires : goal.slot_act-requires
slot_act-requires c = search (rules, entry_reaches, accepted-low)

pub returns : goal.returns
returns c = search (rules, entry_acted)
