-- A sheet has no reals: its message is the same in every spelling of them, and so of octets.
use Rattle.std.specs.Prelude.{Option, Some, None}
use Prim.Native.Nat.{ℕ, zero, suc, ◌≤◌}
use mathlib.Core.Path.{◌≡◌, refl, sym, ap, subst, ◌∙◌}
use mathlib.Core.List.{List, [], ◌∷◌, ◌++◌}
use mathlib.Core.Bool.{true}
use lib.ListN.{length}
use Rattle.ber_integers.proofs.Radix.{Below}
use Rattle.glow_grammar.specs.Grammar.{applications, contents_of, contents_rows}
use Rattle.glow_trees.specs.Trees.{flat}
use Rattle.glow_trees.specs.Legal.{inner, legal_root}
use Rattle.glow_trees.specs.Written.{tagged, spelled, member_octets, members_octets, wrapped, own, trees_octets, root_number, message_octets, written_real}
use Rattle.trees_round_trip.proofs.Octets.{Octets, message-below}
use Rattle.desk_crosspoints.specs.declared.Figures.{Figures}
use Rattle.desk_crosspoints.specs.Desk.{Desk}
use Rattle.sheet_rules.specs.Sheet.{number, identifier, sources_at, list, limit, left_out, link_members, matrix_members, links, sheet_tree, sheet_message}

abbrev no_real : ℕ → List ℕ
no_real w = []

module _ (r : ℕ → List ℕ) where
  list_any : (n : ℕ) (ns : List ℕ) → member_octets r n (list ns) ≡ member_octets no_real n (list ns)
  unfolding member_octets
  list_any n [] = refl
  list_any n (s ∷ ss) = refl

  limit-any : (n : ℕ) (l : Option ℕ) → member_octets r n (limit l) ≡ member_octets no_real n (limit l)
  unfolding member_octets spelled
  limit-any n None = refl
  limit-any n (Some m) = refl

  link-any : (t : ℕ) (ns : List ℕ) → members_octets r 0 (link_members t ns) ≡ members_octets no_real 0 (link_members t ns)
  unfolding members_octets member_octets spelled left_out
  link-any t ns = ap (λ (xs : List ℕ). member_octets no_real 0 (number t) ++ (xs ++ [])) (list_any 1 ns)

  figures-any : (f : Figures) (path : List ℕ) → members_octets r 0 (inner 7 (matrix_members f path)) ≡ members_octets no_real 0 (inner 7 (matrix_members f path))
  unfolding members_octets member_octets spelled left_out inner contents_of contents_rows
  figures-any f path =
      let k = member_octets no_real 2 (number f.kind) in
      let t = member_octets no_real 4 (number f.targets) in
      let s = member_octets no_real 5 (number f.sources) in
      ap (λ (xs : List ℕ). k ++ (t ++ (s ++ (xs ++ (member_octets r 7 (limit f.each) ++ []))))) (limit-any 6 f.total)
      ∙ ap (λ (xs : List ℕ). k ++ (t ++ (s ++ (member_octets no_real 6 (limit f.total) ++ (xs ++ []))))) (limit-any 7 f.each)

  links-any : (d : Desk) (n t : ℕ) → trees_octets r (links d t n) ≡ trees_octets no_real (links d t n)
  unfolding trees_octets links own inner contents_of contents_rows applications wrapped members_octets
  links-any d zero t = refl
  links-any d (suc n) t =
      ap (λ (xs : List ℕ). tagged 2 true 0 (tagged 1 true 16 (xs ++ [])) ++ trees_octets r (links d (suc t) n)) (link-any t (sources_at d t))
      ∙ ap (λ (xs : List ℕ). tagged 2 true 0 (tagged 1 true 16 (members_octets no_real 0 (link_members t (sources_at d t)) ++ [])) ++ xs)
      (links-any d n (suc t))

  sheet-any : (d : Desk) → trees_octets r (sheet_tree d) ≡ trees_octets no_real (sheet_tree d)
  unfolding trees_octets sheet_tree own contents_of contents_rows applications members_octets member_octets
  sheet-any d =
      let f = d.figures in
      let path = d.path in
      let ls = links d 0 f.targets in
      let top = members_octets no_real 0 (identifier path ∷ []) in
      ap (λ (xs : List ℕ). tagged 2 true 0 (tagged 1 true 17 (top ++ (wrapped 1 0 17 xs ++ (wrapped 2 1 4 [] ++ wrapped 5 0 16 (trees_octets r ls))))) ++ [])
      (figures-any f path)
      ∙ ap (λ (xs : List ℕ). tagged 2 true 0 (tagged 1 true 17
      (top ++ (wrapped 1 0 17 (members_octets no_real 0 (inner 7 (matrix_members f path))) ++ (wrapped 2 1 4 [] ++ wrapped 5 0 16 xs)))) ++ [])
      (links-any d f.targets 0)

message-any : (r : ℕ → List ℕ) (d : Desk) → message_octets r 0 (sheet_tree d) ≡ message_octets no_real 0 (sheet_tree d)
unfolding message_octets root_number
message-any r d = ap (λ (xs : List ℕ). tagged 1 true 0 (tagged 1 true 11 xs)) (sheet-any r d)

pub sheet-below : (d : Desk) → legal_root 0 (sheet_tree d) ≡ true → Octets (flat 0 0 (sheet_tree d)) → length (sheet_message d) ≤ 16384
    → Below 256 (sheet_message d)
unfolding sheet_message
sheet-below d right o few =
    let e = message-any written_real d in
    subst (Below 256) (sym e)
    (message-below no_real (λ x i. tt) 0 (sheet_tree d) right o (subst (λ (xs : List ℕ). length xs ≤ 16384) e few))
