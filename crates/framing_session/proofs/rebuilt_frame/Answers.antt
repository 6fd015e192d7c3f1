use mathlib.Core.Path.{sym}
use Rattle.framing_session.proofs.rebuilt_frame.Goals as goal

pub returns-in-Inside : goal.returns-in-Inside
returns-in-Inside c = sym c.in-Inside.is

pub returns-in-Escaped : goal.returns-in-Escaped
returns-in-Escaped c = sym c.in-Escaped.is

pub returns-in-BadByte : goal.returns-in-BadByte
returns-in-BadByte c = sym c.in-BadByte.is

pub returns-in-TooLong : goal.returns-in-TooLong
returns-in-TooLong c = sym c.in-TooLong.is
