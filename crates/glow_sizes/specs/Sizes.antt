-- Sizes of entries and trees. A size over the longest message's is no_size, and so is the size of what is not legal.
use Rattle.std.specs.Prelude.{ℕ, suc, ◌+◌, ◌-◌, ◌<◌, ◌≡◌, List, [], ◌∷◌, Bool, true, false, not, length, drop, get_or, leb, eqb}
use Rattle.base_choices.specs.Choices.{pick, both}
use Rattle.glow_grammar.specs.Grammar.{required, universal, contents_member, set}
use Rattle.glow_grammar.specs.Grammar as grammar
use Rattle.glow_trees.specs.Content.{Content, Item, contents_of}
use Rattle.glow_trees.specs.Rows.{cells_from}
use Rattle.glow_trees.specs.Trees.{Trees, taken_by, count}
use Rattle.glow_trees.specs.Legal.{rule_at, suited, complete, path_after, empty, inner, legal}
use Rattle.glow_trees.specs.Written.{members_octets, wrapped, own, trees_octets}
use Rattle.glow_member_sizes.specs.Sizes.{message_limit, no_size, cap, tagged_size, member_size}
use Rattle.glow_sizes.specs.declared.Entered.{Entered}
use Rattle.glow_sizes.specs.declared.Measured.{Measured}

-- the members from cell c on
unfoldable pub cells_size : (ℕ → List ℕ) → ℕ → ℕ → List Content → ℕ
cells_size real kind c [] = 0
cells_size real kind c (x ∷ xs) = cap (member_size real (rule_at kind c) x + cells_size real kind (suc c) xs)

-- contents or a collection in its outer tag, left out where it is empty
unfoldable pub wrapped_size : ℕ → ℕ
wrapped_size n = pick (eqb n 0) 0 (tagged_size (tagged_size n))

-- the path's numbers, 17 for any count over 16
unfoldable pub path_cap : ℕ → ℕ
path_cap n = pick (leb n 16) n 17

-- an entry alone: its members and its contents, and the path's numbers with its own
unfoldable pub is_entry : ℕ → ℕ → ℕ → List Content → Bool
is_entry kind k above xs =
    both (suited kind 0 xs)
    (both (complete (required kind) xs) (both (leb (path_after kind above xs) 16) (pick (empty (inner kind xs)) true (leb 5 k))))

unfoldable pub entry_octets : (ℕ → List ℕ) → ℕ → List Content → ℕ
entry_octets real kind xs = length (members_octets real 0 (own kind xs)) + length (wrapped contents_member universal set (members_octets real 0 (inner kind xs)))

unfoldable pub entered : (ℕ → List ℕ) → ℕ → ℕ → ℕ → List Content → Entered
entered real kind k above xs =
    pick (both (is_entry kind k above xs) (leb (entry_octets real kind xs) message_limit))
    (record { size = entry_octets real kind xs; inside = length (members_octets real 0 (inner kind xs)); path = path_after kind above xs })
    (record { size = no_size; inside = 0; path = 0 })

-- how many cells stand outside an entry's contents
abbrev pub split : ℕ → ℕ
split kind = pick (eqb (grammar.contents_of kind) 0) 16 1

-- the words of a row where its first two cells begin
abbrev pub first_cell : ℕ
first_cell = 2

abbrev pub second_cell : ℕ
second_cell = 5

-- whether the first n members of a row, at most two, are there
unfoldable pub keyed : ℕ → List ℕ → Bool
keyed n r = pick (eqb n 0) true (pick (eqb (get_or r first_cell 0) 0) false (pick (eqb n 1) true (not (eqb (get_or r second_cell 0) 0))))

-- the entry in a row, with the message beside it
unfoldable pub entered_at : (ℕ → List ℕ) → List ℕ → List ℕ → ℕ → ℕ → Entered
entered_at real s r k above = entered real (get_or r 0 0) k above (contents_of s (cells_from 16 0 r))

-- Trees from place i on, behind `total` octets of the trees before them.
unfoldable pub measured : (ℕ → List ℕ) → ℕ → ℕ → ℕ → ℕ → ℕ → Trees → Measured
measured real which k above total i t =
    pick (both (legal which k above t) (leb (total + length (trees_octets real t)) message_limit))
    (record { next = i + count t; size = total + length (trees_octets real t) })
    (record { next = 0; size = no_size })

-- r is what the entries from place i on give, for every f that is more than those that are left
abbrev pub Gives : (ℕ → List ℕ) → List Item → ℕ → ℕ → ℕ → ℕ → ℕ → ℕ → Measured → Type 0
Gives real es which parent k above total i r =
    (f : ℕ) → length es - i < f → measured real which k above total i (taken_by f which parent i (drop i es)).trees ≡ r
