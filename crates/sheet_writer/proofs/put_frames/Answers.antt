use Rattle.sheet_writer.proofs.Packets.{frames-put, frames-out}
use Rattle.sheet_writer.proofs.put_frames.Goals as goal

pub returns-in-Some : goal.returns-in-Some
returns-in-Some c =
    let both = frames-put c.args.message.now c.args.frames.now c.requires.0 c.requires.1 _ _ c.write_message.ensures
    _ c.in-Some.is in record { frames_after = both.0; upper_bound = both.1 }

pub returns-in-None : goal.returns-in-None
returns-in-None c =
    absurd (frames-out c.args.message.now c.args.frames.now c.requires.0 c.requires.1 _ _ c.write_message.ensures c.in-None.is)
