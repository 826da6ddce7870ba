-- The recording of the bytes has the members that they make.
use Rattle.replay.proofs.desk.Desk.load.Goals as goal

pub returns : goal.returns
returns c = λ ms made. rw (c.new-recording.ensures.no_other_members ms made) c.call.ensures
