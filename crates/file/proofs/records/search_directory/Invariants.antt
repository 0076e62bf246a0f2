-- `file::records::search_directory` meets its contract: what is left of the search is what the whole search gives.
use Prim.Native.Nat.{◌-◌}
use Rattle.file.proofs.ReaderLaws.{Searching}
use Rattle.file.proofs.records.search_directory.Given as goal

abbrev pub invariant-loop-entry : goal.invariant-loop-entry
invariant-loop-entry l = Searching l.width l.file l.number l.directory l.count l.entry

abbrev pub decreases-loop-entry : goal.decreases-loop-entry
decreases-loop-entry l = l.end - l.entry
