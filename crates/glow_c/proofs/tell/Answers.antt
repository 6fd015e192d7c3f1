use Rattle.glow_c.proofs.Laws.{tell-refused, tell-room, tell-read}
use mathlib.Core.Path.{refl}
use Rattle.glow_c.proofs.tell.Goals as goal

pub returns-in-Refused : goal.returns-in-Refused
returns-in-Refused c =
    let the-args = c.args in
    let both = tell-refused the-args.answer.now c.in-Refused.is c.put.ensures c.word.ensures refl refl in
    record { value = both.0; answer_after = both.1 }

pub returns-in-Room : goal.returns-in-Room
returns-in-Room c =
    let the-args = c.args in
    let both = tell-room the-args.answer.now c.in-Room.is c.put-in-Room.ensures refl c.word-in-Room.ensures refl in
    record { value = both.0; answer_after = both.1 }

pub returns-in-Read : goal.returns-in-Read
returns-in-Read c =
    let the-args = c.args in
    let both = tell-read the-args.answer.now c.in-Read.is c.put-in-Read.ensures refl c.word-in-Read.ensures refl in
    record { value = both.0; answer_after = both.1 }
