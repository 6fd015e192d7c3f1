-- Required members, by presence and by order: where members come ascending, all required ones are there at the end exactly if none of them is left out on
-- the way.
use Prim.Native.Nat.{ℕ, zero, suc, ◌≤◌, ◌<◌}
use mathlib.Core.Path.{◌≡◌, refl, sym, ap, ◌∙◌}
use mathlib.Core.List.{List, [], ◌∷◌}
use mathlib.Core.Bool.{true}
use mathlib.Core.Logic.{◌⊎◌, inl, inr, ⊎_elim}
use native.Mathlib.Omega.{arith}
use lib.ListN.{length, get_or, set, length-set}
use Rattle.ber_integers.proofs.Radix.{lt-or-le}
use Rattle.glow_grammar.specs.Grammar.{rule_of, required}
use Rattle.glow_steps.specs.Members.{column}
use Rattle.glow_trees.specs.Content.{Content, nothing}
use Rattle.glow_trees.specs.Trees.{Trees}
use Rattle.glow_trees.specs.Legal.{present, complete}
use Rattle.base_choices.proofs.Laws.{both_left, both_right}
use Rattle.trees_accepted.proofs.Bools.{never}
use Rattle.trees_accepted.proofs.Tables.{Kind, body_at, required-at, required-some, is-set, inner-rule}
use Rattle.trees_accepted.proofs.Parts.{seq-column}
use Rattle.trees_accepted.proofs.Lists.{get_set, get_other, complete-by, nothings, nothings-get}
use Rattle.encodings.specs.Values.{Values, end, plain, nest}
use Rattle.encodings.specs.Encodes.{absent, Ascending, Members, done, over, past, leaf, contents, kids, links}
use Rattle.encodings.proofs.Fitting.{fits-plain}
use Rattle.encodings.proofs.Rows.{says-present, set-column, kept_low, Follows, Ordered}

complete-at : (n : ℕ) (xs : List Content) → complete n xs ≡ true → (i : ℕ) → i < n → present (get_or xs i nothing) ≡ true
unfolding complete
complete-at zero xs e i h = absurd (omega arith)
complete-at (suc n) [] e i h = never e
complete-at (suc n) (x ∷ xs) e zero h = both_left (present x) _ e
complete-at (suc n) (x ∷ xs) e (suc i) h = complete-at n xs (both_right (present x) _ e) i (omega arith)

-- members leave the count of cells
pub members-length : {path : List ℕ} {row : ℕ} {xs ys : List Content} {v : Values} {t u : Trees} → Members path row xs v ys t u → length ys ≡ length xs
members-length done = refl
members-length (over r m) = members-length m
members-length (past r m) = members-length m
members-length (leaf {row = row} {n = n} {xs = xs} {x = x} g s f m) = members-length m ∙ length-set xs (column row n) x
members-length (contents r c m) = members-length m ∙ members-length c
members-length (kids r i m) = members-length m
members-length (links r i m) = members-length m

-- contents leave the first cell
pub set-zero : {path : List ℕ} {row : ℕ} {xs ys : List Content} {v : Values} {t u : Trees} → 10 ≤ row → row ≤ 12 → Members path row xs v ys t u
    → get_or ys 0 nothing ≡ get_or xs 0 nothing
set-zero lo hi done = refl
set-zero lo hi (over r m) = set-zero lo hi m
set-zero lo hi (past r m) = set-zero lo hi m
set-zero lo hi (leaf {row = row} {n = n} {xs = xs} {x = x} g s f m) =
    let c = set-column row n (is-set row lo hi) in
    set-zero lo hi m ∙ get_other xs (column row n) 0 x nothing (λ e. omega arith)
set-zero lo hi (contents {row = row} {n = n} r c m) = let i = (inner-rule row lo hi n (λ z. omega arith)).0 in absurd (omega arith)
set-zero lo hi (kids {row = row} {n = n} r i m) = let i = (inner-rule row lo hi n (λ z. omega arith)).0 in absurd (omega arith)
set-zero lo hi (links {row = row} {n = n} r i m) = let i = (inner-rule row lo hi n (λ z. omega arith)).0 in absurd (omega arith)

-- a kind with contents: they come second, and its number or path alone is required
body-second : (kind : ℕ) → Kind kind → (n : ℕ) → rule_of kind n ≡ 13 → (n ≡ 1) × (required kind ≤ 1)
body-second kind kk n r =
    let b = body_at kind kk n r in
    let e : rule_of kind 1 ≡ 13 = ap (rule_of kind) (sym b.0) ∙ r in (
      b.0,
      ⊎_elim (λ (h : 1 < required kind). let q = (required-at kind kk 1 h).1 in absurd (omega arith)) (λ (h : required kind ≤ 1). h)
          (lt-or-le 1 (required kind)),
    )

-- members from m on leave the cells of required ones before m
seq-cell : {path : List ℕ} {row : ℕ} {xs ys : List Content} {v : Values} {t u : Trees} → Kind row → Members path row xs v ys t u
    → (c m : ℕ) → c < required row → c < m → Ascending m v → get_or ys c nothing ≡ get_or xs c nothing
seq-cell kk done c m r l a = refl
seq-cell kk (over {n = n} e w) c m r l a = let h = a.0 in seq-cell kk w c (suc n) r (omega arith) a.1
seq-cell kk (past {n = n} e w) c m r l a = let h = a.0 in seq-cell kk w c (suc n) r (omega arith) a.1
seq-cell kk (leaf {row = row} {n = n} {xs = xs} {x = x} g s f w) c m r l a =
    let h = a.0 in
    let q = seq-column row kk n n in
    seq-cell kk w c (suc n) r (omega arith) a.1 ∙ get_other xs (column row n) c x nothing (λ e. omega arith)
seq-cell kk (contents {row = row} {n = n} {xs = xs} {ys = ys} e i w) c m r l a =
    let h = a.0 in
    let b = body_at row kk n e in
    let s = (body-second row kk n e).1 in
    let z : c ≡ 0 = omega arith in
    let o : get_or ys c nothing ≡ get_or xs c nothing =
    ap (λ (j : ℕ). get_or ys j nothing) z ∙ set-zero b.1.0 b.1.1 i ∙ ap (λ (j : ℕ). get_or xs j nothing) (sym z) in
    seq-cell kk w c (suc n) r (omega arith) a.1 ∙ o
seq-cell kk (kids {n = n} e i w) c m r l a = let h = a.0 in seq-cell kk w c (suc n) r (omega arith) a.1
seq-cell kk (links {n = n} e i w) c m r l a = let h = a.0 in seq-cell kk w c (suc n) r (omega arith) a.1

-- ---- by presence, so by order

-- required members from m on have not come
abbrev Waits : ℕ → ℕ → List Content → Type 0
Waits r m xs = (c : ℕ) → m ≤ c → c < r → get_or xs c nothing ≡ nothing

module _ (row m : ℕ) (xs ys : List Content) (waits : Waits (required row) m xs) (all : complete (required row) ys ≡ true) where
  next-is : (n : ℕ) → m ≤ n → (m < required row → m < n → get_or ys m nothing ≡ get_or xs m nothing) → Follows (required row) m n
  next-is n h same = (
    h,
    ⊎_elim
        (λ (l : m < required row).
        ⊎_elim
        (λ (k : m < n).
        let p = complete-at (required row) ys all m l in
        let g : get_or ys m nothing ≡ nothing = same l k ∙ waits m (omega arith) l in
        never (ap present (sym g) ∙ p))
        (λ (k : n ≤ m). inr (omega arith)) (lt-or-le m n))
        (λ (l : required row ≤ m). inl l) (lt-or-le m (required row)),
  )

  later-waits : (n : ℕ) → m ≤ n → Waits (required row) (suc n) xs
  later-waits n h c l r = waits c (omega arith) r

done-is : (r m : ℕ) (xs : List Content) → Waits r m xs → complete r xs ≡ true → r ≤ m
done-is r m xs waits all =
    ⊎_elim (λ (l : m < r). never (ap present (sym (waits m (omega arith) l)) ∙ complete-at r xs all m l)) (λ (l : r ≤ m). l) (lt-or-le m r)

ordered-from : {path : List ℕ} {row : ℕ} {xs ys : List Content} {v : Values} {t u : Trees} → Kind row → Members path row xs v ys t u
    → (m : ℕ) → Ascending m v → Waits (required row) m xs → complete (required row) ys ≡ true → Ordered (required row) m v
ordered-from kk (done {row = row} {xs = xs}) m a w e = done-is (required row) m xs w e
ordered-from kk (over {row = row} {n = n} {xs = xs} {ys = ys} r d) m a w e =
    let h = a.0 in (
      next-is row m xs ys w e n h (λ l k. seq-cell kk d m (suc n) l (omega arith) a.1),
      ordered-from kk d (suc n) a.1 (later-waits row m xs ys w e n h) e,
    )
ordered-from kk (past {row = row} {n = n} {xs = xs} {ys = ys} r d) m a w e =
    let h = a.0 in (
      next-is row m xs ys w e n h (λ l k. seq-cell kk d m (suc n) l (omega arith) a.1),
      ordered-from kk d (suc n) a.1 (later-waits row m xs ys w e n h) e,
    )
ordered-from kk (leaf {row = row} {n = n} {xs = xs} {ys = ys} {x = x} g s f d) m a w e =
    let h = a.0 in
    let q = seq-column row kk n n in (
      next-is row m xs ys w e n h (λ l k. seq-cell kk d m (suc n) l (omega arith) a.1 ∙ get_other xs (column row n) m x nothing (λ z. omega arith)),
      ordered-from kk d (suc n) a.1 (λ c l r. get_other xs (column row n) c x nothing (λ z. omega arith) ∙ w c (omega arith) r) e,
    )
ordered-from kk (contents {row = row} {n = n} {xs = xs} {ys = ys} {zs = zs} r i d) m a w e =
    let h = a.0 in
    let b = body_at row kk n r in
    let s = body-second row kk n r in
    let s0 = s.0 in
    let s1 = s.1 in (
      next-is row m xs zs w e n h
          (λ l k. let z : m ≡ 0 = omega arith in
          seq-cell kk d m (suc n) l (omega arith) a.1 ∙ ap (λ (j : ℕ). get_or ys j nothing) z ∙ set-zero b.1.0 b.1.1 i
          ∙ ap (λ (j : ℕ). get_or xs j nothing) (sym z)),
      ordered-from kk d (suc n) a.1 (λ c l r. absurd (omega arith)) e,
    )
ordered-from kk (kids {row = row} {n = n} {xs = xs} {ys = ys} r i d) m a w e =
    let h = a.0 in (
      next-is row m xs ys w e n h (λ l k. seq-cell kk d m (suc n) l (omega arith) a.1),
      ordered-from kk d (suc n) a.1 (later-waits row m xs ys w e n h) e,
    )
ordered-from kk (links {row = row} {n = n} {xs = xs} {ys = ys} r i d) m a w e =
    let h = a.0 in (
      next-is row m xs ys w e n h (λ l k. seq-cell kk d m (suc n) l (omega arith) a.1),
      ordered-from kk d (suc n) a.1 (later-waits row m xs ys w e n h) e,
    )

pub absent-at : (c : ℕ) → get_or absent c nothing ≡ nothing
unfolding nothings
absent-at c = nothings-get 16 c

pub ordered-by : {path : List ℕ} {ys : List Content} {v : Values} {t u : Trees} (kind : ℕ) → Kind kind → Members path kind absent v ys t u
    → Ascending 0 v → complete (required kind) ys ≡ true → Ordered (required kind) 0 v
ordered-by kind kk d a e = ordered-from kk d 0 a (λ c l r. absent-at c) e

-- ---- by order, so by presence

pub ordered-ascending : (r m : ℕ) (v : Values) → Ordered r m v → Ascending m v
ordered-ascending r m end o = tt
ordered-ascending r m (plain class n content rest) o = (o.0.0, ordered-ascending r (suc n) rest o.1)
ordered-ascending r m (nest form class n inside rest) o = let h = o.0.0 in (omega arith, ordered-ascending r (suc n) rest o.1)

-- required members before m are there
abbrev Came : ℕ → ℕ → List Content → Type 0
Came r m xs = (c : ℕ) → c < m → c < r → present (get_or xs c nothing) ≡ true

-- a member that is kept is there too; any other is not a required one
came-on : (row m n : ℕ) (xs : List Content) → Kind row → Came (required row) m xs → Follows (required row) m n
    → (n < required row → present (get_or xs n nothing) ≡ true) → Came (required row) (suc n) xs
came-on row m n xs kk came o here c l r =
    ⊎_elim
    (λ (k : c < n). ⊎_elim (λ (z : required row ≤ m). came c (omega arith) r) (λ (z : n ≡ m). came c (omega arith) r) o.1)
    (λ (k : n ≤ c). let z : c ≡ n = omega arith in ap (λ (j : ℕ). present (get_or xs j nothing)) z ∙ here (omega arith)) (lt-or-le c n)

not-required : (row n : ℕ) (P : Type 0) → Kind row → (rule_of row n ≡ 0) ⊎ (13 ≤ rule_of row n) → n < required row → P
not-required row n P kk (inl e) l = let q = (required-at row kk n l).0 in absurd (omega arith)
not-required row n P kk (inr e) l = let q = (required-at row kk n l).1 in absurd (omega arith)

present-from : {path : List ℕ} {row : ℕ} {xs ys : List Content} {v : Values} {t u : Trees} → Kind row → Members path row xs v ys t u
    → length xs ≡ 16 → (m : ℕ) → Ordered (required row) m v → Came (required row) m xs → (c : ℕ) → c < required row → present (get_or ys c nothing) ≡ true
present-from kk done l m o w c r = w c (omega arith) r
present-from kk (over {row = row} {n = n} {xs = xs} e d) l m o w c r =
    present-from kk d l (suc n) o.1 (came-on row m n xs kk w o.0 (λ h. not-required row n _ kk (inl e) h)) c r
present-from kk (past {row = row} {n = n} {xs = xs} e d) l m o w c r =
    present-from kk d l (suc n) o.1 (came-on row m n xs kk w o.0 (λ h. not-required row n _ kk (inl e) h)) c r
present-from kk (leaf {row = row} {n = n} {xs = xs} {x = x} g s f d) l m o w c r =
    let q = seq-column row kk n n in
    let p = fits-plain f in
    let low : column row n < 16 = kept_low row row n (inl (refl, kk)) p.0 p.1 in
    let here : present (get_or (set xs (column row n) x) n nothing) ≡ true =
    ap (λ (j : ℕ). present (get_or (set xs (column row n) x) j nothing)) (sym q)
    ∙ ap present (get_set xs (column row n) x nothing (omega arith)) ∙ says-present s in
    let w' : Came (required row) m (set xs (column row n) x) = λ c' l' r'.
    ⊎_elim
    (λ (k : c' < n). ap present (get_other xs (column row n) c' x nothing (λ z. omega arith)) ∙ w c' l' r')
    (λ (k : n ≤ c').
    ⊎_elim (λ (j : n < c'). ap present (get_other xs (column row n) c' x nothing (λ z. omega arith)) ∙ w c' l' r')
    (λ (j : c' ≤ n). let z : c' ≡ n = omega arith in ap (λ (j : ℕ). present (get_or (set xs (column row n) x) j nothing)) z ∙ here) (lt-or-le n c'))
    (lt-or-le c' n) in
    present-from kk d (length-set xs (column row n) x ∙ l) (suc n) o.1 (came-on row m n (set xs (column row n) x) kk w' o.0 (λ h. here)) c r
present-from kk (contents {row = row} {n = n} {xs = xs} {ys = ys} e i d) l m o w c r =
    let b = body_at row kk n e in
    let s = body-second row kk n e in
    let s0 = s.0 in
    let s1 = s.1 in
    let w' : Came (required row) m ys = λ c' l' r'.
    let z : c' ≡ 0 = omega arith in
    ap (λ (j : ℕ). present (get_or ys j nothing)) z ∙ ap present (set-zero b.1.0 b.1.1 i) ∙ ap (λ (j : ℕ). present (get_or xs j nothing)) (sym z)
    ∙ w c' l' r' in
    present-from kk d (members-length i ∙ l) (suc n) o.1 (came-on row m n ys kk w' o.0 (λ h. absurd (omega arith))) c r
present-from kk (kids {row = row} {n = n} {xs = xs} e i d) l m o w c r =
    present-from kk d l (suc n) o.1 (came-on row m n xs kk w o.0 (λ h. not-required row n _ kk (inr (omega arith)) h)) c r
present-from kk (links {row = row} {n = n} {xs = xs} e i d) l m o w c r =
    present-from kk d l (suc n) o.1 (came-on row m n xs kk w o.0 (λ h. not-required row n _ kk (inr (omega arith)) h)) c r

pub complete-of : {path : List ℕ} {ys : List Content} {v : Values} {t u : Trees} (kind : ℕ) → Kind kind → Members path kind absent v ys t u
    → Ordered (required kind) 0 v → complete (required kind) ys ≡ true
complete-of {ys = ys} kind kk d o =
    let l : length ys ≡ 16 = members-length d in
    let r = (required-some kind kk).1 in
    complete-by (required kind) ys (omega arith) (present-from kk d refl 0 o (λ c h. absurd (omega arith)))
