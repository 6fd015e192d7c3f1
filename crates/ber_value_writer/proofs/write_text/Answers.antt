use mathlib.Core.Path.{ap}
use native.Mathlib.Omega.{arith}
use Rattle.ber_values.specs.Write.{put_primitive}
use Rattle.ber_values.proofs.Laws.{text-long}
use Rattle.ber_value_writer.proofs.Heads.{text-none, text-stop, text-done}
use Rattle.ber_value_writer.proofs.write_text.Goals as goal

pub returns-then-n-gt4294967295 : goal.returns-then-n-gt4294967295
returns-then-n-gt4294967295 c = ap (put_primitive _ _ _) (text-long _ _ _ c.if-n-gt4294967295.true)

pub returns-in_err-held : goal.returns-in_err-held
returns-in_err-held c =
    let z = c.length_size-h.ensures.value in
    rw c.from_residual.ensures
    (text-none c.args.src.now c.args.start c.args.len c.args.out.now c.args.at c.args.kind c.requires c.if-n-gt4294967295.false
    (omega (arith, c.in_err-held.ensures)))

pub returns : goal.returns
returns c =
    text-done c.args.src.now c.args.start c.args.len c.args.out.now c.args.at c.args.kind
    c.requires c.if-n-gt4294967295.false c.length_size-h.result c.length_size-h.ensures.value _ _ c.write_part.ensures
    _ c.in_ok-end.was _ _
    c.write_length.ensures (omega (arith, c.in_ok-held.ensures.0))

pub returns-in_err-end : goal.returns-in_err-end
returns-in_err-end c =
    rw c.from_residual-in_err-end.ensures
    (text-stop c.args.src.now c.args.start c.args.len c.args.out.now c.args.at c.args.kind
    c.requires
    c.if-n-gt4294967295.false
    c.length_size-h.result
    c.length_size-h.ensures.value _ _
    c.write_part.ensures c.in_err-end.was)
