use mathlib.Core.Path.{sym, ◌∙◌}
use mathlib.Core.Logic.{inl, inr}
use Rattle.glow_paths.proofs.Numbers.{end_is, end_list, end-range, end_refused}
use Rattle.glow_paths.proofs.list_end.Goals as goal

pub returns-in-Numbers : goal.returns-in-Numbers
returns-in-Numbers c = let e = sym c.read_oid.ensures.is ∙ c.in-Numbers.is in record { octets_value = end_is _ _ e; left = end_list _ _ e }

pub returns-in-Range : goal.returns-in-Range
returns-in-Range c =
    elim c.in-Range.is [
      | inl h ↦ let e = sym c.read_oid.ensures.is ∙ h in record { octets_value = end_is _ _ e; left = end-range _ e }
      | inr h ↦ let e = sym c.read_oid.ensures.is ∙ h in record { octets_value = end_is _ _ e; left = end_refused _ e }
    ]
