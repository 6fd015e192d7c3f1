-- The walk by turns: one law for each way on from p. The fuel of the definitions appears here and in no proof of code.
use Rattle.std.specs.Prelude.{Result, Ok, Err}
use Prim.Native.Nat.{ℕ, zero, suc, ◌+◌, ◌-◌, ◌<◌}
use mathlib.Core.Path.{◌≡◌, ap, ◌∙◌}
use mathlib.Core.List.{List, [], ◌∷◌, ◌++◌}
use native.Mathlib.Omega.{arith}
use lib.ListN.{length}
use Rattle.base_choices.proofs.Pairs.{ok-parts}
use Rattle.ber_containers.specs.declared.No.{No}
use Rattle.ber_containers.specs.declared.Open.{Open}
use Rattle.ber_containers.specs.declared.Tag.{Tag}
use Rattle.ber_containers.specs.Ends.{last_at}
use Rattle.glow_rows.specs.declared.Cell.{Cell}
use Rattle.glow_rows.specs.Entry.{Entries, blank, put_cell}
use Rattle.glow_grammar.specs.Grammar.{contents_of}
use Rattle.glow_steps.specs.declared.Member.TheVariants.{Done, Over, Leaf, Contents, Items, Refused as NoMember}
use Rattle.glow_steps.specs.declared.Item.TheVariants.{Done as NoMore, Element, Refused as NoItem}
use Rattle.glow_steps.specs.Members.{member_at, item_at}
use Rattle.glow_walk.specs.Tree.{Out, out, closed, members_by, items_by, MembersGive, ItemsGive}
use Rattle.glow_walk.specs.Progress.{counted}

module _ (s : List ℕ) (k : ℕ) (o : Open) (row me above p before : ℕ) (es : Entries) where
  pub members-done : {next : ℕ} → member_at s p o k row above before ≡ Done next → MembersGive s k o row me above p before es (out (Ok next) es)
  unfolding members_by
  members-done e zero h = absurd (omega arith)
  members-done e (suc f) h = simp e

  pub members-no : {r : No} → member_at s p o k row above before ≡ NoMember r → MembersGive s k o row me above p before es (out (Err r) es)
  unfolding members_by
  members-no e zero h = absurd (omega arith)
  members-no e (suc f) h = simp e

  pub members-over : {after next : ℕ} {x : Out} → member_at s p o k row above before ≡ Over after next → p < length s → p < next
      → MembersGive s k o row me above next after es x → MembersGive s k o row me above p before es x
  unfolding members_by
  members-over e w l r zero h = absurd (omega arith)
  members-over e w l r (suc f) h = simp e (r f (omega arith))

  pub members-leaf : {after c path next : ℕ} {v : Cell} {x : Out} → member_at s p o k row above before ≡ Leaf after c v path next
      → p < length s → p < next
      → MembersGive s k o row me path next after (put_cell es me c v) x → MembersGive s k o row me above p before es x
  unfolding members_by
  members-leaf e w l r zero h = absurd (omega arith)
  members-leaf e w l r (suc f) h = simp e (r f (omega arith))

  module _ {after : ℕ} {outer : Open} {g : Tag} {j : ℕ} (e : member_at s p o k row above before ≡ Contents after outer g j)
      (w : p < length s) (l : p < g.start) {y : Out}
      (i : MembersGive s (j - 1) g.inner (contents_of row) me above g.start 0 es y) where
    pub contents-no : {r : No} → closed s outer j y.answer ≡ Err r → MembersGive s k o row me above p before es (out (Err r) y.entries)
    unfolding members_by
    contents-no c zero h = absurd (omega arith)
    contents-no c (suc f) h = simp (e, i f (omega arith), c)

    pub contents-in : {next : ℕ} {x : Out} → closed s outer j y.answer ≡ Ok next → p < next
        → MembersGive s k o row me above next after y.entries x → MembersGive s k o row me above p before es x
    unfolding members_by
    contents-in c m r zero h = absurd (omega arith)
    contents-in c m r (suc f) h = simp (e, i f (omega arith), c) (r f (omega arith))

  module _ {after which : ℕ} {outer : Open} {g : Tag} {j : ℕ} (e : member_at s p o k row above before ≡ Items after which outer g j)
      (w : p < length s) (l : p < g.start) {y : Out} (i : ItemsGive s (j - 1) g.inner which (me + 1) above g.start es y) where
    pub list-no : {r : No} → closed s outer j y.answer ≡ Err r → MembersGive s k o row me above p before es (out (Err r) y.entries)
    unfolding members_by
    list-no c zero h = absurd (omega arith)
    list-no c (suc f) h = simp (e, i f (omega arith), c)

    pub list-in : {next : ℕ} {x : Out} → closed s outer j y.answer ≡ Ok next → p < next
        → MembersGive s k o row me above next after y.entries x → MembersGive s k o row me above p before es x
    unfolding members_by
    list-in c m r zero h = absurd (omega arith)
    list-in c m r (suc f) h = simp (e, i f (omega arith), c) (r f (omega arith))

module _ (s : List ℕ) (k : ℕ) (o : Open) (which parent above p : ℕ) (es : Entries) where
  pub items-done : {next : ℕ} → item_at s p o k which ≡ NoMore next → ItemsGive s k o which parent above p es (out (Ok next) es)
  unfolding items_by
  items-done e zero h = absurd (omega arith)
  items-done e (suc f) h = simp e

  pub items-no : {r : No} → item_at s p o k which ≡ NoItem r → ItemsGive s k o which parent above p es (out (Err r) es)
  unfolding items_by
  items-no e zero h = absurd (omega arith)
  items-no e (suc f) h = simp e

  module _ {kind : ℕ} {outer : Open} {g : Tag} {j : ℕ} (e : item_at s p o k which ≡ Element kind outer g j) (w : p < length s) (l : p < g.start)
      {y : Out} (i : MembersGive s (j - 1) g.inner kind (length es) above g.start 0 (es ++ (blank kind parent ∷ [])) y) where
    pub element-no : {r : No} → closed s outer j y.answer ≡ Err r → ItemsGive s k o which parent above p es (out (Err r) y.entries)
    unfolding items_by
    element-no c zero h = absurd (omega arith)
    element-no c (suc f) h = simp (e, i f (omega arith), c)

    pub element-in : {next : ℕ} {x : Out} → closed s outer j y.answer ≡ Ok next → p < next
        → ItemsGive s k o which parent above next y.entries x → ItemsGive s k o which parent above p es x
    unfolding items_by
    element-in c m r zero h = absurd (omega arith)
    element-in c m r (suc f) h = simp (e, i f (omega arith), c) (r f (omega arith))

-- what the code's answer says of the definition's
pub counted-read : (a : Result ℕ No) (n : ℕ) {next m : ℕ} → counted a n ≡ Ok (next, m) → (a ≡ Ok next) × (n ≡ m)
counted-read (Ok p) n h = let g = ok-parts h in (ap Ok g.0, g.1)
counted-read (Err e) n h = let z : ◌≡◌ {A = ℕ} 0 1 = cc in absurd (omega arith)

pub counted-no : (a : Result ℕ No) (n : ℕ) {e : No} → counted a n ≡ Err e → a ≡ Err e
counted-no (Ok p) n h = let z : ◌≡◌ {A = ℕ} 0 1 = cc in absurd (omega arith)
counted-no (Err e) n h = cc

module _ (s : List ℕ) (outer : Open) (k : ℕ) {w : Result (ℕ × ℕ) No} (a : Result ℕ No) (n : ℕ) (h : counted a n ≡ w) where
  pub close-no : {e : No} → w ≡ Err e → counted (closed s outer k a) n ≡ Err e
  unfolding closed
  close-no i = rw (counted-no a n (h ∙ i))

  pub close_more : {q m : ℕ} {e : No} → w ≡ Ok (q, m) → last_at s q outer k ≡ Err e → counted (closed s outer k a) n ≡ Err e
  unfolding closed
  close_more i l = rw (counted-read a n (h ∙ i)).0 (rw l)

  pub close-read : {q m next : ℕ} → w ≡ Ok (q, m) → last_at s q outer k ≡ Ok next → counted (closed s outer k a) n ≡ Ok (next, m)
  unfolding closed
  close-read i l = rw ((counted-read a n (h ∙ i)).0, (counted-read a n (h ∙ i)).1) (rw l)
