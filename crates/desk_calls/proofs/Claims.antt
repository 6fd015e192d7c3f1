-- What holds of every call: a legal desk stays legal, 1 leaves everything as it was, every connection is answered, and an answer other than 0 changes nothing.
use Prim.Native.Nat.{ℕ, suc, ◌≤◌}
use mathlib.Core.Path.{◌≡◌, refl, sym, ap, ◌∙◌}
use mathlib.Core.List.{List, [], ◌∷◌, ◌++◌}
use mathlib.Core.Bool.{Bool, true, false}
use native.Mathlib.Omega.{arith}
use lib.ListN.{length}
use lib.Dec.{eqb}
use Rattle.base_choices.specs.Choices.{pick}
use Rattle.glow_rows.specs.Entry.{Rows}
use Rattle.glow_trees.specs.Content.{Item}
use Rattle.glow_trees.specs.Rows.{items_in}
use Rattle.desk_crosspoints.specs.Crosspoints.{Cells, legal}
use Rattle.desk_crosspoints.specs.Desk.{Desk, with_cells, desk_legal, Answer, answer}
use Rattle.desk_crosspoints.proofs.Paths.{desk-fits, desk-legal, desk-rest}
use Rattle.desk_requests.specs.Request.{Request, requested}
use Rattle.desk_requests.proofs.Claims.{request-legal, refused-same, request-length}
use Rattle.glow_paths.specs.Paths.{same}
use Rattle.desk_connections.specs.Connections.{Ask, ask_of, asks_in, asks_of}
use Rattle.desk_calls.specs.Calls.{request_of, answered, Served, answers, served, handled, Outcome, filled, laid}
use Rattle.desk_calls.specs.Calls.{unserved, called}
use Rattle.desk_setup.specs.Ready.{is_ready}
use Rattle.desk_calls.proofs.Setup.{called-not, called-ready}

-- Whatever of a desk a request keeps, a message's connections keep.
module _ (P : Desk → Type 0) (k : (d : Desk) (r : Request) → P d → P (with_cells d (requested d r).cells)) where
  pub answered-keeps : (d : Desk) (a : Ask) → P d → P (with_cells d (answered d a).cells)
  unfolding answered
  answered-keeps d a h = go (same a.matrix d.path)
    where
      go : (u : Bool) → P (with_cells d (pick u (requested d (request_of a)) (answer 40 d.crosspoints)).cells)
      go true = k d (request_of a) h
      go false = h

  pub served-keeps : (d : Desk) (l : List Ask) → P d → P (with_cells d (served d l).cells)
  unfolding served
  served-keeps d [] h = h
  served-keeps d (a ∷ later) h = served-keeps (with_cells d (answered d a).cells) later (answered-keeps d a h)

-- "each answered, also after a refused one"
pub served-count : (d : Desk) (l : List Ask) → length (served d l).answers ≡ length l
unfolding served
served-count d [] = refl
served-count d (a ∷ later) = ap suc (served-count (with_cells d (answered d a).cells) later)

-- the connections before some others do not know of them
pub served-append : (d : Desk) (l m : List Ask)
    → served d (l ++ m)
    ≡ answers ((served d l).answers ++ (served (with_cells d (served d l).cells) m).answers) (served (with_cells d (served d l).cells) m).cells
unfolding served
served-append d [] m = refl
served-append d (a ∷ later) m =
    ap (λ (z : Served). answers ((answered d a).number ∷ z.answers) z.cells) (served-append (with_cells d (answered d a).cells) later m)

-- no more connections than entries
pub asks-few : (es l : List Item) → length (asks_in es l) ≤ length l
unfolding asks_in
asks-few es [] = omega arith
asks-few es (e ∷ later) = go (eqb e.kind 8) (asks-few es later)
  where
    go : (u : Bool) → length (asks_in es later) ≤ length later
        → length (pick u (ask_of es e ∷ asks_in es later) (asks_in es later)) ≤ suc (length later)
    go true h = omega (arith, h)
    go false h = omega (arith, h)

-- figures and crosspoints are those of a legal desk
abbrev pub Lawful : Desk → Type 0
Lawful d = legal d.figures d.crosspoints ≡ true

module _ (d : Desk) where
  -- "40 to 44 [leave] the crosspoints as they were"
  pub refused-stays : (a : Ask) → ((answered d a).number ≡ 0 → ⊥) → (answered d a).cells ≡ d.crosspoints
  unfolding answered
  refused-stays a n = go (same a.matrix d.path) n
    where
      go : (u : Bool) → ((pick u (requested d (request_of a)) (answer 40 d.crosspoints)).number ≡ 0 → ⊥)
          → (pick u (requested d (request_of a)) (answer 40 d.crosspoints)).cells ≡ d.crosspoints
      go true z = refused-same d (request_of a) z
      go false z = refl

  pub answered-legal : (a : Ask) (x : ℕ) (after : Cells) → Lawful d → answered d a ≡ answer x after → Lawful (with_cells d after)
  answered-legal a x after h e =
      ap (λ (z : Answer). legal d.figures z.cells) (sym e) ∙ answered-keeps Lawful (λ x r k. request-legal x r k) d a h

  pub handled-legal : (es : List Item) → Lawful d → Lawful (with_cells d (handled d es).cells)
  unfolding handled
  handled-legal es h = served-keeps Lawful (λ x r k. request-legal x r k) d (asks_of es) h

  pub handled-length : (es : List Item) → length (handled d es).cells ≡ length d.crosspoints
  unfolding handled
  handled-length es =
      served-keeps (λ (x : Desk). length x.crosspoints ≡ length d.crosspoints) (λ x r e. request-length x r ∙ e) d (asks_of es) refl

  -- no connections: no answers, and nothing changed
  pub handled-none : (es : List Item) → asks_of es ≡ [] → handled d es ≡ answers [] d.crosspoints
  unfolding handled served
  handled-none es e = rw e

  module _ (root : ℕ) (rows : Rows) (n : ℕ) (s : List ℕ) where
    abbrev es : List Item
    es = items_in s rows n

    abbrev done : Outcome
    done = called d root rows n s

    abbrev by : Bool → Outcome
    by u = pick u (laid (handled d es)) (unserved d.crosspoints)

    -- "1 leaves everything as it was", no connection is answered, and it is for what `is_ready` names, and for nothing else
    pub setup-stays : done.number ≡ 1 → done ≡ unserved d.crosspoints
    unfolding called laid
    setup-stays e = go (is_ready d root rows n s) e
      where
        go : (u : Bool) → (by u).number ≡ 1 → by u ≡ unserved d.crosspoints
        go true z = absurd (omega (arith, z))
        go false z = refl

    pub setup-exactly : is_ready d root rows n s ≡ false → done ≡ unserved d.crosspoints
    setup-exactly h = called-not d root rows n s h

    -- else 0, as many answers as connections, and zeros after them
    pub done-count : is_ready d root rows n s ≡ true
        → (done.number ≡ 0) × ((done.count ≡ length (asks_of es)) × (done.answers ≡ filled (handled d es).answers))
    unfolding laid handled
    done-count h =
        let e = called-ready d root rows n s h in (
          ap (λ (z : Outcome). z.number) e,
          (ap (λ (z : Outcome). z.count) e ∙ served-count d (asks_of es), ap (λ (z : Outcome). z.answers) e),
        )

    -- a legal desk stays legal
    pub called-legal : desk_legal d ≡ true → desk_legal (with_cells d done.cells) ≡ true
    unfolding called laid
    called-legal h = desk-rest (with_cells d done.cells) (desk-fits d h) ∙ go (is_ready d root rows n s)
      where
        go : (u : Bool) → legal d.figures (by u).cells ≡ true
        go true = handled-legal es (desk-legal d h)
        go false = desk-legal d h

    pub called-length : length done.cells ≡ length d.crosspoints
    unfolding called laid
    called-length = go (is_ready d root rows n s)
      where
        go : (u : Bool) → length (by u).cells ≡ length d.crosspoints
        go true = handled-length es
        go false = refl
