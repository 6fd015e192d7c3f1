use mathlib.Core.Path.{refl, sym, subst}
use Rattle.framing_session.specs.declared.Frame.{Frame}
use Rattle.framing_session.specs.declared.Frame.TheVariants.{BadByte, TooLong}
use Rattle.framing_content.specs.declared.Fault.TheVariants.{Byte, Long}
use Rattle.framing_session.specs.Rules.{in_place}
use Rattle.framing_session.specs.Session.{Legal}
use Rattle.framing_session.proofs.Laws.{stays-stray, stays-fault}
use Rattle.framing_session.specs.Steps.{Reaches}
use Rattle.framing_strides.proofs.advances.Goals as goal

pub fills-requires : goal.fills-requires
fills-requires c =
    let a = c.args in (
      subst (λ (f : Frame). Legal (record { frame = f; message = a.session.message }) a.store.now) c.in-Inside.is
          c.requires.0,
      c.requires.1,
    )

pub skips-requires : goal.skips-requires
skips-requires c = (stays-stray c.args.session c.in-Stray.is, c.requires.1)

pub skips-requires-in-BadByte : goal.skips-requires-in-BadByte
unfolding in_place
skips-requires-in-BadByte c = (
  stays-fault c.args.session Byte (BadByte c.in-BadByte.length)
      c.in-BadByte.is (λ t b. refl),
  c.requires.1,
)

pub skips-requires-in-TooLong : goal.skips-requires-in-TooLong
unfolding in_place
skips-requires-in-TooLong c = (
  stays-fault c.args.session Long (TooLong c.in-TooLong.length)
      c.in-TooLong.is (λ t b. refl),
  c.requires.1,
)

pub returns-in-Inside : goal.returns-in-Inside
returns-in-Inside c =
    let a = c.args in
    subst (λ (f : Frame). Reaches a.chunk.now a.from (record { frame = f; message = a.session.message }) a.store.now
    c.fills.result.at c.fills.result.session c.fills.new.store)
    (sym c.in-Inside.is) c.fills.ensures

pub returns-in-Stray : goal.returns-in-Stray
returns-in-Stray c = c.skips.ensures c.args.store.now c.requires.0

pub returns-in-BadByte : goal.returns-in-BadByte
returns-in-BadByte c = c.skips-in-BadByte.ensures c.args.store.now c.requires.0

pub returns-in-TooLong : goal.returns-in-TooLong
returns-in-TooLong c = c.skips-in-TooLong.ensures c.args.store.now c.requires.0
