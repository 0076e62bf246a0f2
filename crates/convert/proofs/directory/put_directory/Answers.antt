-- `convert::directory::put_directory` meets its contract: the entries of the files so far are put.
-- Assumes nothing.
use Rattle.convert.proofs.Putting.{put-room}
use Rattle.convert.proofs.ReadLaws.{files-fit}
use Rattle.convert.proofs.DirectoryLaws.{directory-start, files-place-fits, directory-offset, directory-room, to-fits, number-inside}
use Rattle.convert.proofs.DirectoryLaws.{last-inside, last_fits, last-value-fits, last_more_fits, last-size-fits, entry-fits, place-next-fits}
use Rattle.convert.proofs.DirectoryLaws.{directory_again, directory-done}
use Rattle.std.proofs.Common.{rules}
use Rattle.convert.proofs.directory.put_directory.Goals as goal

pub overflow_mul-place : goal.overflow_mul-place
overflow_mul-place c = search (rules, files-fit)

pub overflow_add-place : goal.overflow_add-place
overflow_add-place c = search (rules, files-place-fits)

pub loop-done-init : goal.loop-done-init
loop-done-init c = search (rules, directory-start)

pub overflow_add-last : goal.overflow_add-last
overflow_add-last c = search (rules, last_fits)

pub bounds-file-entry : goal.bounds-file-entry
bounds-file-entry c = search (rules, last-inside)

pub bounds-file-entry-in-loop-done : goal.bounds-file-entry-in-loop-done
bounds-file-entry-in-loop-done c = search (rules, number-inside)

pub put_directory_entry-requires : goal.put_directory_entry-requires
put_directory_entry-requires c = (search (rules, directory-offset), search (rules, directory-room))

pub overflow_cast-place : goal.overflow_cast-place
overflow_cast-place c = search (rules, last-value-fits)

pub overflow_add-place-in-loop-done : goal.overflow_add-place-in-loop-done
overflow_add-place-in-loop-done c = search (rules, last_more_fits)

pub overflow_mul-place-in-loop-done : goal.overflow_mul-place-in-loop-done
overflow_mul-place-in-loop-done c = search (rules, last-size-fits)

pub overflow_add-place-in-loop-done-2 : goal.overflow_add-place-in-loop-done-2
overflow_add-place-in-loop-done-2 c = search (rules, place-next-fits)

pub overflow_add-entry : goal.overflow_add-entry
overflow_add-entry c = search (rules, entry-fits)

pub overflow_add-to : goal.overflow_add-to
overflow_add-to c = search (rules, to-fits)

pub loop-done-preserved : goal.loop-done-preserved
loop-done-preserved c = search (rules, directory_again)

pub shape_of-out : goal.shape_of-out
shape_of-out c = put-room c.loop-done.invariant.put

pub returns : goal.returns
returns c = search (rules, directory-done)
