-- What stands in an element: a command's, a connection's or a stream entry's members; number or path, contents, children and connections.
use Rattle.std.specs.Prelude.{Ok}
use Prim.Native.Nat.{ℕ, suc, ◌+◌, ◌-◌, ◌≤◌, ◌<◌}
use mathlib.Core.Path.{◌≡◌, refl, sym, ap, subst, ◌∙◌}
use mathlib.Core.List.{List, [], ◌∷◌, ◌++◌, append_assoc, append-nil}
use mathlib.Core.Bool.{Bool, true, false}
use mathlib.Core.Logic.{⊎_elim}
use native.Mathlib.Omega.{arith}
use borrow.Author.Tests.{eqb-true, eq-eqb, ne_eqb}
use lib.ListN.{length, drop, length-append}
use lib.Dec.{leb, eqb}
use Rattle.base_choices.specs.Choices.{pick}
use Rattle.base_choices.proofs.Laws.{both_left, both_right}
use Rattle.glow_rows.specs.declared.Cell.{Cell}
use Rattle.glow_rows.specs.Cell.{absent}
use Rattle.glow_rows.specs.Entry.{Entries, blank, blanks, put_cell}
use Rattle.glow_grammar.specs.Grammar.{rule_of, required, is_set, contents_of, inner_class, inner_number, collection_of}
use Rattle.glow_grammar.specs.Leaf.{expects}
use Rattle.glow_grammar.proofs.Tables.{expects-step}
use Rattle.glow_steps.specs.Members.{after_listed, column}
use Rattle.glow_walk.specs.Tree.{out, MembersGive}
use Rattle.glow_walk.proofs.Ways.{members-done}
use Rattle.glow_trees.specs.Content.{Content, nothing, word, bytes, wrong, is_part, item, contents_of as say, items_of}
use Rattle.glow_trees.specs.Trees.{Trees, none, tree, count, flat}
use Rattle.glow_trees.specs.Legal.{suits, present, empty, complete, rule_at, suited, path_of, is_none, legal}
use Rattle.glow_trees.specs.Written.{member_octets, members_octets, wrapped, trees_octets}
use Rattle.trees_read_back.proofs.Bools.{never, unless, part-kinds}
use Rattle.trees_read_back.proofs.Standing.{till}
use Rattle.trees_read_back.proofs.Leaves.{Spells}
use Rattle.trees_read_back.proofs.Order.{Ready, ready-start, ready-done, ready-after}
use Rattle.trees_read_back.proofs.Turns.{member-done}
use Rattle.trees_read_back.proofs.Members.{entry, with, put-here, Fit, One, one-read, Several, several-read}
use Rattle.trees_read_back.proofs.Known.{Simple, Full}
use Rattle.trees_read_back.proofs.Stages.{Grows, Contented, contents-read, Listed, list-none, list_read}

-- entries by content, one list after another
pub items-append : (s : List ℕ) (a b : Entries) → items_of s (a ++ b) ≡ items_of s a ++ items_of s b
unfolding items_of
items-append s [] b = refl
items-append s (e ∷ a) b = rw (items-append s a b) refl

-- members that suit their cells suit their rules
alone-fit : (kind c : ℕ) (xs : List Content) → contents_of kind ≡ 0 → suited kind c xs ≡ true → Fit kind c xs
unfolding suited rule_at
alone-fit kind c [] z e = tt
alone-fit kind c (x ∷ xs) z e =
    let r : pick (eqb (contents_of kind) 0) (rule_of kind c) (pick (eqb c 0) (rule_of kind 0) (rule_of (contents_of kind) (c - 1))) ≡ rule_of kind c = rw z in
    (subst (λ (i : ℕ). suits i x ≡ true) r (both_left _ _ e), alone-fit kind (suc c) xs z (both_right (suits (rule_at kind c) x) _ e))

contents-fit : (kind n : ℕ) (xs : List Content) → (contents_of kind ≡ 0 → ⊥) → suited kind (suc n) xs ≡ true → Fit (contents_of kind) n xs
unfolding suited rule_at
contents-fit kind n [] z e = tt
contents-fit kind n (x ∷ xs) z e =
    let i : suc n ≡ 0 → ⊥ = λ q. omega arith in
    let j : suc n - 1 ≡ n = omega arith in
    let r : pick (eqb (contents_of kind) 0) (rule_of kind (suc n)) (pick (eqb (suc n) 0) (rule_of kind 0) (rule_of (contents_of kind) (suc n - 1)))
    ≡ rule_of (contents_of kind) n = rw (ne_eqb _ _ z, ne_eqb _ _ i, j) in
    (subst (λ (i : ℕ). suits i x ≡ true) r (both_left _ _ e), contents-fit kind (suc n) xs z (both_right (suits (rule_at kind (suc n)) x) _ e))

pub first-rule : (kind : ℕ) → (contents_of kind ≡ 0 → ⊥) → rule_at kind 0 ≡ rule_of kind 0
unfolding rule_at
first-rule kind z = rw (ne_eqb _ _ z)

-- a number that adds to a path of at most 16
step_room : (what above : ℕ) (x : Content) (xs : List Content) → present x ≡ true → suits what x ≡ true → path_of what above (x ∷ xs) ≤ 16
    → what ≡ 5 → above < 16
unfolding suits
step_room what above nothing xs p i h e = never p
step_room what above (word kind w) xs p i h e =
    let l : pick (eqb what 5) (suc above) above ≤ 16 = h in
    let m : suc above ≤ 16 = rw (eq-eqb _ _ e) at l in m
step_room what above (bytes kind bs) xs p i h e =
    let a = (unless (eqb what 0) _ i).1 in
    let two : kind ≡ 2 = eqb-true kind 2 (sym (expects-step kind what e) ∙ both_left (expects what kind) _ (both_right (is_part kind) _ a)) in
    ⊎_elim (λ (q : kind ≡ 4). absurd (omega arith)) (⊎_elim (λ (q : kind ≡ 12). absurd (omega arith)) (λ (q : kind ≡ 13). absurd (omega arith)))
    (part-kinds kind (both_left (is_part kind) _ a))
step_room what above wrong xs p i h e = never i

pub path-first : (what above : ℕ) (x : Content) (xs : List Content) → path_of what above (x ∷ []) ≡ path_of what above (x ∷ xs)
path-first what above nothing xs = refl
path-first what above (word kind w) xs = refl
path-first what above (bytes kind bs) xs = refl
path-first what above wrong xs = refl

first-there : (n : ℕ) (x : Content) (xs : List Content) → n ≡ 1 → complete n (x ∷ xs) ≡ true → present x ≡ true
unfolding complete
first-there n x xs e h =
    let one : complete 1 (x ∷ xs) ≡ true = subst (λ (m : ℕ). complete m (x ∷ xs) ≡ true) e h in
    both_left (present x) _ one

pub none_is : (t : Trees) → is_none t ≡ true → t ≡ none
none_is none e = refl
none_is (tree kind members kids links rest) e = never e

-- what is read of an element: its entry, then its children's and its connections'
pub record Body (s : List ℕ) (k q kind above p parent : ℕ) (es : Entries) (members : List Content) (kids links : Trees) : Type 0 where
  pub more : Entries
  pub says : items_of s more
      ≡ item kind parent members ∷ (flat (suc (length es)) (suc (length es)) kids ++ flat (suc (length es)) (suc (length es) + count kids) links)
  pub sized : length more ≡ suc (count kids + count links)
  pub gives : MembersGive s k (till q) kind (length es) above p 0 (with es (blank kind parent)) (out (Ok q) (es ++ more))

module _ (real : ℕ → List ℕ) (spells : Spells real) (s : List ℕ) (few : length s ≤ 16384) (q k kind : ℕ) (some : 0 < k) (pre : Entries) (parent above p : ℕ)
    (rest : List ℕ) (sequence : is_set kind ≡ false) where
  first-column : column kind 0 ≡ 0
  unfolding column
  first-column = rw sequence

  -- members alone
  module _ (f : Simple kind) (xs : List Content) (size : length xs ≡ 16) (suit : suited kind 0 xs ≡ true) (all : complete (required kind) xs ≡ true)
      (t : drop p s ≡ members_octets real 0 xs ++ rest) (ends : p + length (members_octets real 0 xs) ≡ q) where
    inside : Several real spells s few q k kind some pre kind parent above [] rest f.plain p 0 0 [] xs
    inside =
        let i : required kind ≡ required kind - 0 = omega arith in
        several-read real spells s few q k kind some pre kind parent above [] rest f.plain xs p 0 0 [] (alone-fit kind 0 xs f.alone suit)
        (subst (λ (m : ℕ). complete m xs ≡ true) i all) (ready-start kind) first-column (omega arith) (omega arith) t (omega arith)

    abbrev made : Entries
    made = with pre (entry kind parent (inside.us ++ []))

    done : MembersGive s k (till q) kind (length pre) above p 0 (with pre (entry kind parent (blanks (length xs) ++ []))) (out (Ok inside.next) made)
    done =
        let g = inside.goes in
        let w = f.few in
        inside.gives (out (Ok inside.next) made)
        (members-done s k (till q) kind (length pre) above inside.next inside.after made
        (member-done s inside.next q k kind above inside.after (omega arith)
        (ready-done kind inside.after (0 + length xs) inside.ready (omega arith))))

    pub simple-body : Body s k q kind above p parent pre xs none none
    unfolding items_of flat count
    simple-body =
        let g = inside.goes in
        let e : inside.next ≡ q = omega arith in
        record {
          more = entry kind parent (inside.us ++ []) ∷ [];
          says = rw (append-nil inside.us, inside.says) refl;
          sized = refl;
          gives = subst (λ (i : ℕ). MembersGive s k (till q) kind (length pre) above p 0 (with pre (blank kind parent)) (out (Ok i) made)) e
              (subst (λ (cs : List Cell). MembersGive s k (till q) kind (length pre) above p 0 (with pre (entry kind parent cs))
              (out (Ok inside.next) made))
              (append-nil (blanks (length xs)) ∙ ap blanks size) done);
        }

  -- number or path, contents, children and connections
  module _ (f : Full kind) (x : Content) (xs : List Content) (kids links : Trees) where
    abbrev path : ℕ
    path = path_of (rule_of kind 0) above (x ∷ [])

    abbrev m0 : List ℕ
    m0 = member_octets real 0 x

    abbrev w1 : List ℕ
    w1 = wrapped 1 0 17 (members_octets real 0 xs)

    abbrev w2 : List ℕ
    w2 = wrapped 2 1 4 (trees_octets real kids)

    abbrev w5 : List ℕ
    w5 = wrapped 5 0 16 (trees_octets real links)

    -- the parts, joined
    module _ (one : One real spells s few q k kind some (length pre) above path p 0 0 x (w1 ++ (w2 ++ (w5 ++ rest))))
        (c : Contented real spells s few q k kind pre parent path one.next (after_listed kind 0 0) one.value xs (w2 ++ (w5 ++ rest))) where
      abbrev own : Entries
      own = with pre (entry kind parent (one.value ∷ c.us))

      module _ (a : Listed real spells s few q k kind pre parent path 2 1 4 c.next c.after own kids (w5 ++ rest))
          (b : Listed real spells s few q k kind pre parent path 5 0 16 a.next a.after (own ++ a.more) links rest)
          (size : length xs ≡ 15) (ends : p + (length m0 + (length w1 + (length w2 + length w5))) ≡ q) where
        abbrev whole : Entries
        whole = (own ++ a.more) ++ b.more

        last : MembersGive s k (till q) kind (length pre) path b.next b.after whole (out (Ok b.next) whole)
        last =
            let g0 = one.goes in
            let g1 = c.goes in
            let g2 = a.goes in
            let g3 = b.goes in
            let r = f.one in
            members-done s k (till q) kind (length pre) path b.next b.after whole
            (member-done s b.next q k kind path b.after (omega arith) (ready-done kind b.after 6 b.ready (omega arith)))

        start : put_cell (with pre (entry kind parent (blanks 16))) (length pre) (column kind 0) one.value
            ≡ with pre (entry kind parent (one.value ∷ blanks (length xs)))
        unfolding blanks
        start =
            ap (λ (i : ℕ). put_cell (with pre (entry kind parent (blanks 16))) (length pre) i one.value) first-column
            ∙ put-here pre kind parent [] absent one.value (blanks 15) (omega arith)
            ∙ ap (λ (n : ℕ). with pre (entry kind parent (one.value ∷ blanks n))) (sym size)

        walked : MembersGive s k (till q) kind (length pre) above p 0 (with pre (blank kind parent)) (out (Ok b.next) whole)
        walked =
            one.gives (with pre (blank kind parent)) (out (Ok b.next) whole)
            (subst (λ (es : Entries). MembersGive s k (till q) kind (length pre) path one.next (after_listed kind 0 0) es
            (out (Ok b.next) whole)) (sym start)
            (c.gives (out (Ok b.next) whole) (a.gives (out (Ok b.next) whole) (b.gives (out (Ok b.next) whole) last))))

        joined : whole ≡ pre ++ (entry kind parent (one.value ∷ c.us) ∷ (a.more ++ b.more))
        joined =
            append_assoc own a.more b.more
            ∙ append_assoc pre (entry kind parent (one.value ∷ c.us) ∷ []) (a.more ++ b.more)

        kids-say : items_of s a.more ≡ flat (suc (length pre)) (suc (length pre)) kids
        kids-say =
            let l : length own ≡ length pre + 1 = length-append pre (entry kind parent (one.value ∷ c.us) ∷ []) in
            let i : length own ≡ suc (length pre) = omega arith in
            let j : length pre + 1 ≡ suc (length pre) = omega arith in
            a.says ∙ ap (λ (n : ℕ). flat n (length own) kids) j ∙ ap (λ (n : ℕ). flat (suc (length pre)) n kids) i

        links-say : items_of s b.more ≡ flat (suc (length pre)) (suc (length pre) + count kids) links
        links-say =
            let l : length own ≡ length pre + 1 = length-append pre (entry kind parent (one.value ∷ c.us) ∷ []) in
            let m : length (own ++ a.more) ≡ length own + length a.more = length-append own a.more in
            let z = a.sized in
            let i : length (own ++ a.more) ≡ suc (length pre) + count kids = omega arith in
            let j : length pre + 1 ≡ suc (length pre) = omega arith in
            b.says ∙ ap (λ (n : ℕ). flat n (length (own ++ a.more)) links) j ∙ ap (λ (n : ℕ). flat (suc (length pre)) n links) i

        together : Body s k q kind above p parent pre (x ∷ xs) kids links
        unfolding items_of say
        together =
            let g0 = one.goes in
            let g1 = c.goes in
            let g2 = a.goes in
            let g3 = b.goes in
            let e : b.next ≡ q = omega arith in
            let l = length-append a.more b.more in
            let z = a.sized in
            let z' = b.sized in
            record {
              more = entry kind parent (one.value ∷ c.us) ∷ (a.more ++ b.more);
              says = rw (one.says, c.says, items-append s a.more b.more, kids-say, links-say) refl;
              sized = omega arith;
              gives = subst (λ (es : Entries). MembersGive s k (till q) kind (length pre) above p 0 (with pre (blank kind parent)) (out (Ok q) es)) joined
                  (subst (λ (i : ℕ). MembersGive s k (till q) kind (length pre) above p 0 (with pre (blank kind parent)) (out (Ok i) whole)) e walked);
            }

    links-none : (lk : Trees) (p' before : ℕ) (es : Entries) → is_none lk ≡ true → Ready kind before 3
        → drop p' s ≡ wrapped 5 0 16 (trees_octets real lk) ++ rest
        → Listed real spells s few q k kind pre parent path 5 0 16 p' before es lk rest
    links-none none p' before es e ready t =
        let r = f.one in
        list-none real spells s few q k kind pre parent path 5 0 16 p' before 3 es rest (omega arith) ready (omega arith) t
    links-none (tree kind' members kids' links' trees) p' before es e ready t = never e

    links-read : (p' before : ℕ) (es : Entries) (v : Bool) → eqb (rule_of kind 5) 15 ≡ v → pick v (legal 2 (k - 1 - 1) path links) (is_none links) ≡ true
        → Grows real s links → Ready kind before 3 → drop p' s ≡ w5 ++ rest → p' + length w5 ≤ q
        → Listed real spells s few q k kind pre parent path 5 0 16 p' before es links rest
    unfolding inner_class inner_number collection_of
    links-read p' before es true e r g ready t ends =
        let o = f.one in
        list_read real spells s few q k kind pre parent path 5 0 16 2 15 (eqb-true _ _ e) (omega arith) refl refl refl (omega arith) (omega arith)
        (omega arith)
        p' before 3 es links rest (omega arith) ready (omega arith) r g t ends
    links-read p' before es false e r g ready t ends = links-none links p' before es r ready t

    kids-read : (p' before : ℕ) (es : Entries) → legal 1 (k - 1 - 1) path kids ≡ true → Grows real s kids → Ready kind before 2
        → drop p' s ≡ w2 ++ (w5 ++ rest) → p' + length w2 ≤ q → Listed real spells s few q k kind pre parent path 2 1 4 p' before es kids (w5 ++ rest)
    unfolding inner_class inner_number collection_of
    kids-read p' before es r g ready t ends =
        let o = f.one in
        list_read real spells s few q k kind pre parent path 2 1 4 1 14 f.third (omega arith) refl refl refl (omega arith) (omega arith) (omega arith)
        p' before 2 es kids (w5 ++ rest) (omega arith) ready (omega arith) r g t ends

    pub full_body : length xs ≡ 15 → suited kind 0 (x ∷ xs) ≡ true → complete (required kind) (x ∷ xs) ≡ true → path_of (rule_of kind 0) above (x ∷ xs) ≤ 16
        → pick (empty xs) true (leb 3 k) ≡ true → Grows real s kids → Grows real s links → legal 1 (k - 1 - 1) path kids ≡ true
        → pick (eqb (rule_of kind 5) 15) (legal 2 (k - 1 - 1) path links) (is_none links) ≡ true
        → drop p s ≡ m0 ++ (w1 ++ (w2 ++ (w5 ++ rest))) → p + (length m0 + (length w1 + (length w2 + length w5))) ≡ q
        → Body s k q kind above p parent pre (x ∷ xs) kids links
    unfolding suited
    full_body size suit all low deep gk gl rk rl t ends =
        let there = first-there (required kind) x xs f.one all in
        let fits : suits (rule_of kind 0) x ≡ true = subst (λ (i : ℕ). suits i x ≡ true) (first-rule kind f.row-some) (both_left _ _ suit) in
        begin
        (one-read real spells s few q k kind some (length pre) above p 0 0 x (w1 ++ (w2 ++ (w5 ++ rest))) there fits f.first
        (step_room (rule_of kind 0) above x xs there fits low) (omega arith) (ready-start kind) t (omega arith))
      where
        end : (one : One real spells s few q k kind some (length pre) above path p 0 0 x (w1 ++ (w2 ++ (w5 ++ rest))))
            (c : Contented real spells s few q k kind pre parent path one.next (after_listed kind 0 0) one.value xs (w2 ++ (w5 ++ rest)))
            (a : Listed real spells s few q k kind pre parent path 2 1 4 c.next c.after (own one c) kids (w5 ++ rest))
            → Body s k q kind above p parent pre (x ∷ xs) kids links
        end one c a =
            let g0 = one.goes in
            let g1 = c.goes in
            let g2 = a.goes in
            together one c a (links-read a.next a.after (own one c ++ a.more) (eqb (rule_of kind 5) 15) refl rl gl a.ready a.there
            (omega arith)) size ends

        middle : (one : One real spells s few q k kind some (length pre) above path p 0 0 x (w1 ++ (w2 ++ (w5 ++ rest))))
            (c : Contented real spells s few q k kind pre parent path one.next (after_listed kind 0 0) one.value xs (w2 ++ (w5 ++ rest)))
            → Body s k q kind above p parent pre (x ∷ xs) kids links
        middle one c =
            let g0 = one.goes in
            let g1 = c.goes in
            end one c (kids-read c.next c.after (own one c) rk gk c.ready c.there (omega arith))

        begin : One real spells s few q k kind some (length pre) above path p 0 0 x (w1 ++ (w2 ++ (w5 ++ rest)))
            → Body s k q kind above p parent pre (x ∷ xs) kids links
        begin one =
            let g0 = one.goes in
            let r = f.one in
            middle one
            (contents-read real spells s few q k kind pre parent path one.next (after_listed kind 0 0) one.value xs (w2 ++ (w5 ++ rest))
            (ready-after kind 0 0 0 (ready-start kind) (omega arith)) (omega arith) (omega arith) f.row-set f.plain
            (contents-fit kind 0 xs f.row-some (both_right (suits (rule_at kind 0) x) _ suit)) f.second deep one.there (omega arith))
