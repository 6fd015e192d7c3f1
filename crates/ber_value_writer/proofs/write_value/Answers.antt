use mathlib.Core.Path.{◌≡◌, ap, ◌∙◌}
use mir.Syntax.{w64}
use mir.Val.{to_z, of_z}
use Rattle.ber_values.specs.Write.{put_value}
use borrow.Author.Rules.{rules}
use Rattle.ber_value_writer.proofs.write_value.Goals as goal

pub returns-in-Absent : goal.returns-in-Absent
returns-in-Absent c =
    ap (put_value c.args.src.now c.args.out.now
    c.args.at) c.in-Absent.is

pub returns-in-Int : goal.returns-in-Int
returns-in-Int c =
    let k : to_z w64 (of_z w64 c.in-Int.x) ≡ c.in-Int.x =
    search rules in
    ap (put_value c.args.src.now c.args.out.now c.args.at) c.in-Int.is
    ∙ rw k at c.write_whole.ensures

pub returns-in-Real : goal.returns-in-Real
returns-in-Real c = ap (put_value c.args.src.now c.args.out.now c.args.at) c.in-Real.is ∙ c.write_double.ensures

pub returns-in-Text : goal.returns-in-Text
returns-in-Text c = ap (put_value c.args.src.now c.args.out.now c.args.at) c.in-Text.is ∙ c.write_text.ensures

pub returns-in-Bool : goal.returns-in-Bool
returns-in-Bool c = ap (put_value c.args.src.now c.args.out.now c.args.at) c.in-Bool.is ∙ c.write_flag.ensures

pub returns-in-Octets : goal.returns-in-Octets
returns-in-Octets c = ap (put_value c.args.src.now c.args.out.now c.args.at) c.in-Octets.is ∙ c.write_text-in-Octets.ensures
