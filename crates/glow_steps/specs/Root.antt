-- Root and the collection in it (document 01, "Glow").
use Rattle.ber_containers.specs.declared.No.{No}
use Rattle.std.specs.Prelude.{ℕ, List, eqb, Result, Ok, Err}
use Rattle.base_choices.specs.Choices.{pick}
use Rattle.ber_containers.specs.declared.Open.{Open}
use Rattle.ber_containers.specs.declared.Tag.{Tag}
use Rattle.ber_containers.specs.declared.Stands.{Stands}
use Rattle.ber_containers.specs.declared.Stands.TheVariants.{Ended, Here, Refused}
use Rattle.ber_containers.specs.Ends.{no, enter_at, first_at, is_tag}
use Rattle.glow_grammar.specs.Grammar.{application, root_tag, no_root, root_of, depth, in_root}

-- "(the message is none)": the message itself is no container, so nothing passes its end
abbrev pub unbounded : Open
unbounded = record { definite = 1; end = 18446744073709551615 }

-- the collection in Root, by its application number
unfoldable pub root_kind : Tag → ℕ
root_kind g = pick (is_tag g application 1 g.number) (root_of g.number) no_root

abbrev pub root_in : Tag → Result Tag No → Result (ℕ × Open × Tag) No
root_in t (Ok g) = pick (eqb (root_kind g) no_root) (Err (no 33 t.start)) (Ok (root_kind g, t.inner, g))
root_in t (Err e) = Err e

-- "Root 0": its tag
abbrev pub top_of : List ℕ → Stands → Result (ℕ × Open × Tag) No
top_of s (Ended next) = Err (no 33 0)
top_of s (Here t) = pick (is_tag t application 1 root_tag) (root_in t (first_at s t.start t.inner in_root)) (Err (no 33 0))
top_of s (Refused e) = Err e

-- "At most 64 containers, outer tags among them"
unfoldable pub top_at : List ℕ → Result (ℕ × Open × Tag) No
top_at s = top_of s (enter_at s 0 unbounded depth)
