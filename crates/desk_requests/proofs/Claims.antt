-- What holds of every request: a legal desk stays legal, a refused request changes nothing, disconnect meets no limit, in 1:1 no other target keeps
-- the source, and a desk of another type keeps every other target as it was.
use Prim.Native.Nat.{ℕ, ◌+◌, ◌*◌, ◌≤◌, ◌<◌}
use mathlib.Core.Path.{◌≡◌, refl, sym, ap, subst, ◌∙◌}
use mathlib.Core.List.{List, []}
use mathlib.Core.Bool.{Bool, true, false, not, true≢false}
use mathlib.Core.Logic.{◌⊎◌, inl, inr, ⊎_elim}
use native.Mathlib.Omega.{arith}
use borrow.Author.Tests.{leb-true, leb-false, ltb-false, eqb-true, eqb-false, lt-ltb, eq-eqb, ne_eqb, not-false}
use lib.ListN.{length, get_or}
use lib.Dec.{leb, ltb, eqb}
use Rattle.base_choices.specs.Choices.{pick, both}
use Rattle.base_choices.proofs.Laws.{both_left, both_right}
use Rattle.ber_integers.proofs.Radix.{lt-or-le}
use Rattle.desk_crosspoints.specs.declared.Figures.{Figures}
use Rattle.desk_crosspoints.specs.Figures.{most_each, most_total}
use Rattle.desk_crosspoints.specs.Crosspoints.{Cells, count, row_at, with_row, taken_from, legal}
use Rattle.desk_crosspoints.specs.Desk.{Desk, Answer, answer}
use Rattle.desk_crosspoints.proofs.Laws.{both_yes, fit-kind-le, fit-sources-some, each-one, kind-many}
use Rattle.desk_crosspoints.proofs.Under.{Under, under-count, row-cell, row-past, row-length, bits-tell}
use Rattle.desk_crosspoints.proofs.Under.{rows_tell, with-inside}
use Rattle.desk_crosspoints.proofs.Counts.{count_none}
use Rattle.desk_crosspoints.proofs.Legal.{legal-fit, legal-length, legal-bits, legal-rows, legal-kind, legal-row-there}
use Rattle.desk_crosspoints.proofs.Kept.{Single, after-other, after-under, after-legal}
use Rattle.desk_requests.specs.Request.{Request, marked, named, all_below, replaces, becomes, takes, others, row_after, result_of}
use Rattle.desk_requests.specs.Request.{limited, many, over_total, checks, judged, asked, requested}
use Rattle.desk_requests.proofs.Checks.{Each, none-fails, first_by}
use Rattle.desk_requests.proofs.Laws.{replaces-if, becomes-less, becomes-list, becomes-one, becomes-more}
use Rattle.desk_requests.proofs.Parts.{first_below, others-kind, others-take}
use Rattle.desk_requests.proofs.Answers.{request-asked}
use Rattle.desk_requests.proofs.Rows.{taken-length, taken-under, taken-cell, marked-length, marked-under, marked-bits}
use Rattle.desk_requests.proofs.Rows.{named-length, named-bits, named_none, named_other, named-one}

marked-none : (v : ℕ) (r : Cells) → marked v r [] ≡ r
unfolding marked
marked-none v r = refl

replaces-is : (f : Figures) (list : Cells) (b : Bool) → replaces f list ≡ b → both (ltb f.kind 2) (eqb (count list) 1) ≡ b
unfolding replaces
replaces-is f list b h = h

module _ (d : Desk) (req : Request) where
  abbrev f : Figures
  f = d.figures

  abbrev target : ℕ
  target = req.target

  abbrev l : List ℕ
  l = req.sources

  abbrev operation : ℕ
  operation = req.operation

  abbrev cells : Cells
  cells = d.crosspoints

  abbrev w : ℕ
  w = f.sources

  -- what 0 tells
  pub record Granted : Type 0 where
    pub there : target < f.targets
    pub below : all_below f.sources l ≡ true
    pub limits : (operation ≡ 2)
        ⊎ ((many d req ≡ false) × (over_total d req ≡ false))

  -- the numbers of the checks, none of them 0
  some : Each (λ c. 0 < c.number) (checks d req)
  unfolding checks
  some = (omega arith, (omega arith, (omega arith, (omega arith, tt))))

  pub granted : judged d req ≡ 0 → Granted
  unfolding judged checks
  granted h =
      let z = none-fails (checks d req) some h in
      record {
        there = leb-false f.targets target z.0;
        below = not-false (all_below f.sources l) z.1.0;
        limits = go (eqb operation 2) refl z.1.1.0 z.1.1.1.0;
      }
    where
      go : (u : Bool) → eqb operation 2 ≡ u → both (not u) (many d req) ≡ false → both (not u) (over_total d req) ≡ false
          → (operation ≡ 2) ⊎ ((many d req ≡ false) × (over_total d req ≡ false))
      go true e m t = inl (eqb-true operation 2 e)
      go false e m t = inr (m, t)

  abbrev old : Cells
  old = row_at w cells target

  abbrev freed : Cells
  freed = others f l operation cells

  abbrev new : Cells
  new = becomes f l operation old

  freed-under : Under freed cells
  unfolding others
  freed-under = go (takes f l operation)
    where
      go : (u : Bool) → Under (pick u (taken_from w cells (get_or l 0 0) f.targets) cells) cells
      go true = taken-under w (get_or l 0 0) f.targets cells
      go false = λ i. omega arith

  freed-length : length freed ≡ length cells
  unfolding others
  freed-length = go (takes f l operation)
    where
      go : (u : Bool) → length (pick u (taken_from w cells (get_or l 0 0) f.targets) cells) ≡ length cells
      go true = taken-length w (get_or l 0 0) f.targets cells
      go false = refl

  module _ (h : legal f cells ≡ true) (o : operation ≤ 2) (g : Granted) where
    old-most : count old ≤ most_each f
    old-most = rows_tell w (most_each f) cells f.targets (legal-rows f cells h) target g.there

    old-length : length old ≡ w
    old-length = row-length w cells target (legal-row-there f cells h target g.there)

    old-bits : (i : ℕ) → get_or old i 0 ≤ 1
    old-bits i =
        ⊎_elim (λ (k : i < w). omega (arith, row-cell w cells target i k, bits-tell cells (legal-bits f cells h) (target * w + i)))
        (λ (k : w ≤ i). omega (arith, row-past w cells target i k)) (lt-or-le i w)

    -- cells that are set only where the target's were
    less-legal : (x : Cells) → length x ≡ w → Under x old → legal f (with_row w freed target x) ≡ true
    less-legal x n u =
        after-legal f cells freed target x h g.there freed-under freed-length n (λ i. omega (arith, u i, old-bits i))
        (omega (arith, under-count x old u, old-most))
        (λ k s q. inl (omega (arith, u s, row-cell w cells target s q)))
        (λ k.
        omega (
          arith,
          under-count (with_row w freed target x) cells (after-under f cells freed target x h g.there freed-under freed-length n u),
          leb-true (count cells) (most_total f) (sym (kind-many f cells k) ∙ legal-kind f cells h),
        ))

    module _ (m : many d req ≡ false) (t : over_total d req ≡ false) where
      few : f.kind ≡ 2 → count new ≤ most_each f
      unfolding many row_after
      few k =
          let e : many d req ≡ ltb (most_each f) (count new) = simp (eq-eqb f.kind 2 k) in
          ltb-false (most_each f) (count new) (sym e ∙ m)

      short : (f.kind ≡ 2 → ⊥) → count (named w l) ≤ 1
      unfolding many row_after
      short k =
          let e : many d req ≡ ltb 1 (count (named w l)) = simp (ne_eqb f.kind 2 k) in
          ltb-false 1 (count (named w l)) (sym e ∙ m)

      within : f.kind ≡ 2 → count (with_row w freed target new) ≤ most_total f
      unfolding over_total result_of row_after
      within k =
          let e : over_total d req ≡ ltb (most_total f) (count (with_row w freed target new))
          = both_yes (eqb f.kind 2) (ltb (most_total f) (count (with_row w freed target new))) (eq-eqb f.kind 2 k) in
          ltb-false (most_total f) (count (with_row w freed target new)) (sym e ∙ t)

      sources-in : f.sources ≤ w
      sources-in = omega arith

      -- the list alone
      list-legal : operation < 2 → new ≡ named w l → legal f (with_row w freed target new) ≡ true
      list-legal o e =
          after-legal f cells freed target new h g.there freed-under freed-length (ap length e ∙ named-length w l)
          (λ i. subst (λ (x : Cells). get_or x i 0 ≤ 1) (sym e) (named-bits w l i)) most single within
        where
          most : count new ≤ most_each f
          most =
              ⊎_elim (λ (k : f.kind < 2). omega (arith, ap count e, short (λ z. omega (arith, k, z)), each-one f (λ z. omega (arith, k, z))))
              (λ (k : 2 ≤ f.kind). few (omega (arith, k, fit-kind-le f (legal-fit f cells h)))) (lt-or-le f.kind 2)

          single : f.kind ≡ 1 → (s : ℕ) → s < w → Single f cells freed target new s
          single k s q = go (eqb (count (named w l)) 1) refl (eqb (get_or l 0 0) s) refl
            where
              go : (u : Bool) → eqb (count (named w l)) 1 ≡ u → (v : Bool) → eqb (get_or l 0 0) s ≡ v → Single f cells freed target new s
              go false d v p =
                  let c : count (named w l) ≤ 0 =
                  ⊎_elim (λ (y : count (named w l) < 1). omega (arith, y))
                  (λ (y : 1 ≤ count (named w l)).
                  absurd (eqb-false (count (named w l)) 1 d (omega (arith, y, short (λ z. omega (arith, k, z))))))
                  (lt-or-le (count (named w l)) 1) in
                  inl (subst (λ (x : Cells). get_or x s 0 ≤ get_or cells (target * w + s) 0) (sym e) (omega (arith, count_none (named w l) [] c s)))
              go true d true p =
                  let i : get_or l 0 0 ≡ s = eqb-true (get_or l 0 0) s p in
                  let y : freed ≡ taken_from w cells s f.targets =
                  others-take f l operation cells (count (named w l)) s k o refl (eqb-true (count (named w l)) 1 d) i in
                  inr (λ t j. ap (λ (x : Cells). get_or x (t * w + s) 0) y ∙ taken-cell w s f.targets cells t j)
              go true d false p =
                  inl (subst (λ (x : Cells). get_or x s 0 ≤ get_or cells (target * w + s) 0) (sym e)
                  (omega (arith, named_other w f.sources l sources-in g.below (eqb-true (count (named w l)) 1 d) s (eqb-false (get_or l 0 0) s p))))

      -- sources added
      more-legal : operation ≡ 1 → replaces f (named w l) ≡ false → new ≡ marked 1 old l → legal f (with_row w freed target new) ≡ true
      unfolding replaces
      more-legal q r e =
          ⊎_elim (λ (k : f.kind < 2). single k (both_yes (ltb f.kind 2) (eqb (count (named w l)) 1) (lt-ltb f.kind 2 k)))
          (λ (k : 2 ≤ f.kind). matrix (omega (arith, k, fit-kind-le f (legal-fit f cells h)))) (lt-or-le f.kind 2)
        where
          single : f.kind < 2 → both (ltb f.kind 2) (eqb (count (named w l)) 1) ≡ eqb (count (named w l)) 1
              → legal f (with_row w freed target new) ≡ true
          single k b =
              let d : count (named w l) ≡ 1 → ⊥ = eqb-false (count (named w l)) 1 (sym b ∙ r) in
              let c : count (named w l) ≤ 0 =
              ⊎_elim (λ (y : count (named w l) < 1). omega (arith, y))
              (λ (y : 1 ≤ count (named w l)). absurd (d (omega (arith, y, short (λ z. omega (arith, k, z)))))) (lt-or-le (count (named w l)) 1) in
              let n : l ≡ [] = named_none w f.sources l sources-in g.below c in
              let u : new ≡ old = e ∙ ap (marked 1 old) n ∙ marked-none 1 old in
              subst (λ (x : Cells). legal f (with_row w freed target x) ≡ true) (sym u) (less-legal old old-length (λ i. omega arith))

          matrix : f.kind ≡ 2 → legal f (with_row w freed target new) ≡ true
          matrix k =
              after-legal f cells freed target new h g.there freed-under freed-length (ap length e ∙ marked-length 1 l old ∙ old-length)
              (λ i. subst (λ (x : Cells). get_or x i 0 ≤ 1) (sym e) (marked-bits 1 l old (omega arith) old-bits i)) (few k)
              (λ z. absurd (omega (arith, k, z))) within

      limited-legal : operation < 2 → legal f (with_row w freed target new) ≡ true
      limited-legal q = go (eqb operation 1) refl (replaces f (named w l)) refl
        where
          go : (u : Bool) → eqb operation 1 ≡ u → (v : Bool) → replaces f (named w l) ≡ v → legal f (with_row w freed target new) ≡ true
          go false e v r =
              list-legal q (becomes-list f l operation old (λ z. omega (arith, q, z)) (eqb-false operation 1 e))
          go true e true r =
              list-legal q (becomes-one f l operation old (count (named w l)) (eqb-true operation 1 e) refl (replaces-is f (named w l) true r))
          go true e false r =
              more-legal (eqb-true operation 1 e) r
              (becomes-more f l operation old (count (named w l)) (eqb-true operation 1 e) refl (replaces-is f (named w l) false r))

    pub granted-legal : legal f (result_of d req) ≡ true
    unfolding result_of row_after
    granted-legal =
        ⊎_elim (λ (e : operation ≡ 2). less e)
        (λ (z : (many d req ≡ false) × (over_total d req ≡ false)). go z (eqb operation 2) refl) g.limits
      where
        less : operation ≡ 2 → legal f (with_row w freed target new) ≡ true
        less e =
            let x : new ≡ marked 0 old l = becomes-less f l operation old e in
            subst (λ (y : Cells). legal f (with_row w freed target y) ≡ true) (sym x)
            (less-legal (marked 0 old l) (marked-length 0 l old ∙ old-length) (marked-under l old))

        go : (many d req ≡ false) × (over_total d req ≡ false)
            → (u : Bool) → eqb operation 2 ≡ u → legal f (with_row w freed target new) ≡ true
        go z true e = less (eqb-true operation 2 e)
        go z false e =
            limited-legal z.0 z.1
            (⊎_elim (λ (y : operation < 2). y) (λ (y : 2 ≤ operation). absurd (eqb-false operation 2 e (omega (arith, o, y)))) (lt-or-le operation 2))

    new-length : length new ≡ w
    unfolding becomes
    new-length = go (eqb operation 2) (eqb operation 1) (replaces f (named w l))
      where
        go : (a b c : Bool) → length (pick a (marked 0 old l) (pick b (pick c (named w l) (marked 1 old l)) (named w l))) ≡ w
        go true b c = marked-length 0 l old ∙ old-length
        go false true true = named-length w l
        go false true false = marked-length 1 l old ∙ old-length
        go false false c = named-length w l

    -- a cell of another target
    pub granted-other : (t s : ℕ) → s < w → (t ≡ target → ⊥) → get_or (result_of d req) (t * w + s) 0 ≡ get_or freed (t * w + s) 0
    unfolding result_of row_after
    granted-other t s k d = after-other f cells freed target new h g.there freed-under freed-length new-length t s k d

    pub granted-here : (s : ℕ) → s < w → get_or (result_of d req) (target * w + s) 0 ≡ get_or new s 0
    unfolding result_of row_after
    granted-here s k =
        with-inside w freed target new (omega (arith, freed-length, legal-row-there f cells h target g.there)) new-length s k

    -- 1:1, absolute or connect with one source
    module _ (k : f.kind ≡ 1) (q : operation < 2) (c : count (named w l) ≡ 1) where
      source_in : get_or l 0 0 + 1 ≤ w
      source_in = first_below w f.sources l (get_or l 0 0) (omega arith) (fit-sources-some f (legal-fit f cells h)) g.below refl

      new-list : new ≡ named w l
      new-list = go (eqb operation 1) refl
        where
          go : (u : Bool) → eqb operation 1 ≡ u → new ≡ named w l
          go true e = becomes-one f l operation old 1 (eqb-true operation 1 e) c (replaces-if f.kind 1 (omega (arith, k)))
          go false e = becomes-list f l operation old (λ z. omega (arith, q, z)) (eqb-false operation 1 e)

      pub single-gone : (t : ℕ) → t < f.targets → (t ≡ target → ⊥) → get_or (result_of d req) (t * w + get_or l 0 0) 0 ≡ 0
      single-gone t j d =
          granted-other t (get_or l 0 0) (omega (arith, source_in)) d
          ∙ ap (λ (x : Cells). get_or x (t * w + get_or l 0 0) 0) (others-take f l operation cells 1 (get_or l 0 0) k q c refl refl)
          ∙ taken-cell w (get_or l 0 0) f.targets cells t j

      pub single-here : get_or (result_of d req) (target * w + get_or l 0 0) 0 ≡ 1
      single-here =
          granted-here (get_or l 0 0) (omega (arith, source_in)) ∙ ap (λ (x : Cells). get_or x (get_or l 0 0) 0) new-list
          ∙ named-one w f.sources l (omega arith) g.below c

  -- the claims
  abbrev done : Answer
  done = requested d req

  abbrev chosen : Bool → Bool → Answer
  chosen u v = pick u (pick v (answer 0 (result_of d req)) (answer (judged d req) cells)) (answer 1 cells)

  pub request-legal : legal f cells ≡ true → legal f done.cells ≡ true
  unfolding requested asked
  request-legal h = go (both (legal f cells) (leb operation 2)) refl (eqb (judged d req) 0) refl
    where
      go : (u : Bool) → both (legal f cells) (leb operation 2) ≡ u → (v : Bool) → eqb (judged d req) 0 ≡ v
          → legal f (chosen u v).cells ≡ true
      go false e v y = h
      go true e false y = h
      go true e true y =
          granted-legal h (leb-true operation 2 (both_right (legal f cells) (leb operation 2) e))
          (granted (eqb-true (judged d req) 0 y))

  pub refused-same : (done.number ≡ 0 → ⊥) → done.cells ≡ cells
  unfolding requested asked
  refused-same n = go (both (legal f cells) (leb operation 2)) (eqb (judged d req) 0) n
    where
      go : (u v : Bool) → ((chosen u v).number ≡ 0 → ⊥) → (chosen u v).cells ≡ cells
      go false v z = refl
      go true false z = refl
      go true true z = absurd (z refl)

  -- what 0 tells of the whole request
  pub record Done : Type 0 where
    pub legal-before : legal f cells ≡ true
    pub known : operation ≤ 2
    pub passed : Granted
    pub after : done.cells ≡ result_of d req

  pub done-tells : done.number ≡ 0 → Done
  unfolding requested asked
  done-tells n = go (both (legal f cells) (leb operation 2)) refl (eqb (judged d req) 0) refl n
    where
      go : (u : Bool) → both (legal f cells) (leb operation 2) ≡ u → (v : Bool) → eqb (judged d req) 0 ≡ v
          → (chosen u v).number ≡ 0
          → Done
      go false e v y z = absurd (omega (arith, z))
      go true e false y z = absurd (eqb-false (judged d req) 0 y z)
      go true e true y z =
          record {
            legal-before = both_left (legal f cells) (leb operation 2) e;
            known = leb-true operation 2 (both_right (legal f cells) (leb operation 2) e);
            passed = granted (eqb-true (judged d req) 0 y);
            after =
                ap (λ (u : Bool). (pick u (asked d req) (answer 1 cells)).cells) e
                ∙ ap (λ (v : Bool). (pick v (answer 0 (result_of d req)) (answer (judged d req) cells)).cells) y;
          }

  -- "Disconnect never gives 43 or 44."
  told-disconnect : operation ≡ 2 → judged d req ≤ 42
  unfolding judged checks
  told-disconnect e =
      first_by (λ (n : ℕ). n ≤ 42) (checks d req) (omega arith)
      (λ z. omega arith, (λ z. omega arith, (λ z. never (many d req) 43 z, (λ z. never (over_total d req) 44 z, tt))))
    where
      never : (b : Bool) (n : ℕ) → both (limited req) b ≡ true → n ≤ 42
      never b n z = absurd (true≢false (sym z ∙ rw (eq-eqb operation 2 e)))

  pub disconnect-no-limit : operation ≡ 2 → done.number ≤ 42
  unfolding requested asked
  disconnect-no-limit e = go (both (legal f cells) (leb operation 2)) (eqb (judged d req) 0) (told-disconnect e)
    where
      go : (u v : Bool) → judged d req ≤ 42
          → (chosen u v).number ≤ 42
      go false v h = omega arith
      go true false h = h
      go true true h = omega arith

  -- "for 1:1, absolute or connect with one source takes it from every other target"
  module _ (k : f.kind ≡ 1) (q : operation < 2) (c : count (named w l) ≡ 1) (n : done.number ≡ 0) where
    pub one-to-one-gone : (t : ℕ) → t < f.targets → (t ≡ target → ⊥) → get_or done.cells (t * w + get_or l 0 0) 0 ≡ 0
    one-to-one-gone t j d =
        let z : Done = done-tells n in
        ap (λ (x : Cells). get_or x (t * w + get_or l 0 0) 0) z.after ∙ single-gone z.legal-before z.known z.passed k q c t j d

    pub one-to-one-here : get_or done.cells (target * w + get_or l 0 0) 0 ≡ 1
    one-to-one-here =
        let z : Done = done-tells n in
        ap (λ (x : Cells). get_or x (target * w + get_or l 0 0) 0) z.after ∙ single-here z.legal-before z.known z.passed k q c

  -- a desk of another type keeps every other target as it was
  pub other-targets-stay : (f.kind ≡ 1 → ⊥) → (t s : ℕ) → s < w → (t ≡ target → ⊥) → get_or done.cells (t * w + s) 0 ≡ get_or cells (t * w + s) 0
  other-targets-stay k t s j d = go (eqb done.number 0) refl
    where
      go : (u : Bool) → eqb done.number 0 ≡ u → get_or done.cells (t * w + s) 0 ≡ get_or cells (t * w + s) 0
      go false e = ap (λ (x : Cells). get_or x (t * w + s) 0) (refused-same (eqb-false done.number 0 e))
      go true e =
          let z : Done = done-tells (eqb-true done.number 0 e) in
          ap (λ (x : Cells). get_or x (t * w + s) 0) z.after ∙ granted-other z.legal-before z.known z.passed t s j d
          ∙ ap (λ (x : Cells). get_or x (t * w + s) 0) (others-kind f l operation cells k)

  pub request-length : length done.cells ≡ length cells
  request-length = go (eqb done.number 0) refl
    where
      go : (u : Bool) → eqb done.number 0 ≡ u → length done.cells ≡ length cells
      go false e = ap length (refused-same (eqb-false done.number 0 e))
      go true e =
          let z : Done = done-tells (eqb-true done.number 0 e) in
          legal-length f done.cells (request-legal z.legal-before) ∙ sym (legal-length f cells z.legal-before)

  -- 1 is for a desk that is not legal or an operation that is none, and for nothing else
  told-not-setup : judged d req ≡ 1 → ⊥
  unfolding judged checks
  told-not-setup =
      first_by (λ (n : ℕ). n ≡ 1 → ⊥) (checks d req) (λ z. omega (arith, z))
      (λ e z. omega (arith, z), (λ e z. omega (arith, z), (λ e z. omega (arith, z), (λ e z. omega (arith, z), tt))))

  pub request-not-setup : legal f cells ≡ true → operation ≤ 2 → done.number ≡ 1 → ⊥
  unfolding asked
  request-not-setup h o n =
      go (eqb (judged d req) 0) (sym (ap (λ (a : Answer). a.number) (request-asked d req h o)) ∙ n)
    where
      go : (v : Bool)
          → (pick v (answer 0 (result_of d req)) (answer (judged d req) cells)).number ≡ 1 → ⊥
      go true z = omega (arith, z)
      go false z = told-not-setup z
