-- No encoding of a tree is shorter than its message in a spelling of reals that is nowhere longer than the encoding's own: by the structure of values and
-- trees alone.
use Prim.Native.Nat.{ℕ, suc, ◌+◌, ◌≤◌, ◌<◌}
use mathlib.Core.Path.{◌≡◌, refl, sym, ap, ◌∙◌}
use mathlib.Core.List.{List, [], ◌∷◌, ◌++◌}
use mathlib.Core.Bool.{true}
use mathlib.Core.Logic.{⊎_elim}
use native.Mathlib.Omega.{arith}
use lib.ListN.{length, get_or, set, drop, length-append, length-set}
use lib.Ieee as Ieee
use lib.Ieee.{Float, binary64}
use Rattle.ber_integers.specs.Digits.{natural, count}
use Rattle.ber_integers.specs.Integer.{signed, shortest}
use Rattle.ber_integers.proofs.Radix.{Below, lt-or-le, natural-lt, count-least}
use Rattle.ber_integers.proofs.RoundTrip.{read-written, read_fits}
use Rattle.ber_tags.proofs.Shortest.{length-length-short, length-length-long}
use Rattle.ber_reals.specs.Means.{Means}
use Rattle.glow_rows.specs.Cell.{word_of}
use Rattle.glow_grammar.specs.Grammar as grammar
use Rattle.glow_grammar.specs.Grammar.{rule_of, applications}
use Rattle.glow_grammar.proofs.Tables.{root-short}
use Rattle.glow_steps.specs.Members.{column}
use Rattle.glow_trees.specs.Content.{Content, nothing, int_of}
use Rattle.glow_trees.specs.Trees.{Trees, none, tree}
use Rattle.glow_trees.specs.Legal.{inner}
use Rattle.glow_trees.specs.Written.{tagged, spelled, member_octets, members_octets, wrapped, own, trees_octets, root_number, message_octets}
use Rattle.trees_accepted.proofs.Sizes.{length_size, length_more, length-few, around, tagged-size, outer-size, wrapped-size, kindly, member-size}
use Rattle.trees_accepted.proofs.Leaves.{word_back}
use Rattle.trees_accepted.proofs.Sizes as sizes
use Rattle.trees_accepted.proofs.Tables.{Kind, plain_at, body_at, is-set, inner-rule, application-short, stands-kind}
use Rattle.trees_accepted.proofs.Parts.{own_first, inner-all, inner-set, own-set, seq-column, all_nothing, blank-own, blank-body}
use Rattle.trees_accepted.proofs.Lists.{get_other, size-set, size_from, nothings, nothings-size}
use Rattle.encodings.specs.Values.{Values, end, plain, nest, Lengths, Spells, value, container, opened}
use Rattle.encodings.specs.Values as values
use Rattle.encodings.specs.Says.{Says, untrue, truth, integer, octets, real, text, identifier}
use Rattle.encodings.specs.Encodes.{Ascending, absent, Members, done, over, past, leaf, contents, kids, links, Items, ended, Encodes}
use Rattle.encodings.specs.Encodes as encodes
use Rattle.encodings.proofs.Heads.{tags-some}
use Rattle.encodings.proofs.Leaves.{nine-read}
use Rattle.encodings.proofs.Fitting.{fits-plain}
use Rattle.encodings.proofs.Rows.{set-column}
use Rattle.encodings.proofs.Order.{members-length, set-zero, absent-at}

around-more : (m n : ℕ) → m ≤ n → around m ≤ around n
unfolding around
around-more m n h = let l = length_more m n h in omega arith

-- ---- the fewest octets of values

abbrev low : Values → ℕ
low end = 0
low (plain class n content rest) = around (length content) + low rest
low (nest form class n inside rest) = around (low inside) + low rest

below_left : (xs ys : List ℕ) → Below 256 (xs ++ ys) → Below 256 xs
below_left [] ys b = tt
below_left (x ∷ xs) ys b = (b.0, below_left xs ys b.1)

below_right : (xs ys : List ℕ) → Below 256 (xs ++ ys) → Below 256 ys
below_right [] ys b = b
below_right (x ∷ xs) ys b = below_right xs ys b.1

lengths-least : {size : List ℕ} {n : ℕ} → Lengths size n → Below 256 size → length_size n ≤ length size
lengths-least (values.short {n = n} h) b = let e = length-length-short n h in omega arith
lengths-least (values.long ds lo hi) b =
    ⊎_elim (λ (h : natural ds < 128). let e = length-length-short (natural ds) h in omega arith)
    (λ (h : 128 ≤ natural ds).
    let e = length-length-long (natural ds) h in
    let d : count 256 (natural ds) ≤ length ds = count-least 256 (omega arith) (natural ds) (natural ds) (length ds) (omega arith) (natural-lt 256 ds b.1) in
    omega arith)
    (lt-or-le (natural ds) 128)

four : (a b c d : List ℕ) → length (a ++ (b ++ (c ++ d))) ≡ length a + (length b + (length c + length d))
four a b c d =
    length-append a (b ++ (c ++ d)) ∙ ap (λ (n : ℕ). length a + n) (length-append b (c ++ d) ∙ ap (λ (n : ℕ). length b + n) (length-append c d))

-- what is said of all content octets
abbrev pub All : (ℕ → ℕ → List ℕ → Type 0) → Values → Type 0
All P end = Unit {0}
All P (plain class n content rest) = P class n content × All P rest
All P (nest form class n inside rest) = All P inside × All P rest

pub contents-below : {s : List ℕ} {v : Values} → Spells s v → Below 256 s → All (λ class n content. Below 256 content) v
contents-below values.nothing b = tt
contents-below (value {tag = tag} {size = size} {content = content} {later = later} t l r) b =
    let c = below_right size (content ++ later) (below_right tag (size ++ (content ++ later)) b) in
    (below_left content later c, contents-below r (below_right content later c))
contents-below (container {tag = tag} {size = size} {body = body} {later = later} t l i r) b =
    let c = below_right size (body ++ later) (below_right tag (size ++ (body ++ later)) b) in
    (contents-below i (below_left body later c), contents-below r (below_right body later c))
contents-below (opened {tag = tag} {body = body} {later = later} t i r) b =
    let c = (below_right tag ((0x80 ∷ []) ++ (body ++ ((0 ∷ (0 ∷ [])) ++ later))) b).1 in
    (contents-below i (below_left body ((0 ∷ (0 ∷ [])) ++ later) c), contents-below r (below_right body ((0 ∷ (0 ∷ [])) ++ later) c).1.1)

spells-low : {s : List ℕ} {v : Values} → Spells s v → Below 256 s → length s ≤ 16384 → low v ≤ length s
unfolding around
spells-low values.nothing b h = omega arith
spells-low (value {tag = tag} {size = size} {content = content} {later = later} t l r) b h =
    let e = four tag size content later in
    let b1 = below_right tag (size ++ (content ++ later)) b in
    let b2 = below_right size (content ++ later) b1 in
    let i = lengths-least l (below_left size (content ++ later) b1) in
    let k = tags-some t in
    let j = spells-low r (below_right content later b2) (omega arith) in
    omega arith
spells-low (container {tag = tag} {size = size} {body = body} {later = later} {inside = within} t l i r) b h =
    let e = four tag size body later in
    let b1 = below_right tag (size ++ (body ++ later)) b in
    let b2 = below_right size (body ++ later) b1 in
    let q = lengths-least l (below_left size (body ++ later) b1) in
    let k = tags-some t in
    let m = spells-low i (below_left body later b2) (omega arith) in
    let j = spells-low r (below_right body later b2) (omega arith) in
    let o = length_more (low within) (length body) m in
    omega arith
spells-low (opened {tag = tag} {body = body} {later = later} {inside = within} t i r) b h =
    let e = four tag (0x80 ∷ []) body ((0 ∷ (0 ∷ [])) ++ later) in
    let b1 = (below_right tag ((0x80 ∷ []) ++ (body ++ ((0 ∷ (0 ∷ [])) ++ later))) b).1 in
    let b2 = (below_right body ((0 ∷ (0 ∷ [])) ++ later) b1).1.1 in
    let k = tags-some t in
    let m = spells-low i (below_left body ((0 ∷ (0 ∷ [])) ++ later) b1) (omega arith) in
    let j = spells-low r b2 (omega arith) in
    let o = length-few (low within) (omega arith) in
    omega arith

-- ---- the octets of members and trees

drop-set : (xs : List Content) (n : ℕ) (x : Content) → drop 1 (set xs (suc n) x) ≡ set (drop 1 xs) n x
drop-set [] n x = refl
drop-set (y ∷ xs) n x = refl

get_drop : (xs : List Content) (n : ℕ) → get_or (drop 1 xs) n nothing ≡ get_or xs (suc n) nothing
get_drop [] n = refl
get_drop (y ∷ xs) n = refl

length-drop1 : (xs : List Content) → length xs ≡ 16 → length (drop 1 xs) ≡ 15
length-drop1 [] e = absurd (omega arith)
length-drop1 (y ∷ xs) e = omega arith

inner-drop : (kind : ℕ) (xs : List Content) → (grammar.contents_of kind ≡ 0 → ⊥) → inner kind xs ≡ drop 1 xs
unfolding inner
inner-drop kind [] n = refl
inner-drop kind (x ∷ xs) n = inner-all kind x xs n

own-zero : (kind : ℕ) (xs : List Content) → (grammar.contents_of kind ≡ 0 → ⊥) → length xs ≡ 16 → own kind xs ≡ get_or xs 0 nothing ∷ []
own-zero kind [] n l = absurd (omega arith)
own-zero kind (x ∷ xs) n l = own_first kind x xs n

module _ (least : ℕ → List ℕ) where
  -- octets, and of a real at least as many as this spelling has
  abbrev pub Enough : ℕ → ℕ → List ℕ → Type 0
  Enough class n content = Below 256 content × (class ≡ 0 → n ≡ 9 → (x : Float) → Means content x → length (least (Ieee.to_bits binary64 x)) ≤ length content)

  says-low : {type : ℕ} {content : List ℕ} {x : Content} → Says type content x → Enough 0 type content
      → (sizes.inside least x ≤ length content) × (kindly x < 31)
  unfolding sizes.inside spelled
  says-low untrue e = (omega arith, omega arith)
  says-low (truth h) e = (omega arith, omega arith)
  says-low (integer {bs = bs} lo hi d) e =
      let r = nine-read bs lo hi d in
      let q : shortest (int_of (word_of (signed bs))) ≡ bs =
      ap shortest (word_back (signed bs) (read_fits bs (signed bs) e.0 r)) ∙ read-written bs (signed bs) e.0 r in
      let l = ap length q in
      (omega arith, omega arith)
  says-low octets e = (omega arith, omega arith)
  says-low (real x m) e = (e.1 refl refl x m, omega arith)
  says-low text e = (omega arith, omega arith)
  says-low identifier e = (omega arith, omega arith)

  -- one member
  leaf-low : {type n : ℕ} {content : List ℕ} {x : Content} → n < 31 → Says type content x → Enough 0 type content
      → length (member_octets least n x) ≤ around (around (length content) + 0)
  leaf-low {n = n} {content = content} {x = x} h s e =
      let r = says-low s e in
      let a = member-size least n x h r.1 in
      let b = around-more (sizes.inside least x) (length content) r.0 in
      let c = around-more (around (sizes.inside least x)) (around (length content) + 0) (omega arith) in
      omega arith

  -- contents
  set-low : {path : List ℕ} {row : ℕ} {xs ys : List Content} {v : Values} {t u : Trees} → 10 ≤ row → row ≤ 12 → Members path row xs v ys t u
      → length xs ≡ 16 → All Enough v → size_from least 0 (drop 1 ys) ≤ size_from least 0 (drop 1 xs) + low v
  set-low lo hi done l a = omega arith
  set-low lo hi (over r m) l a = let i = set-low lo hi m l a.1 in omega arith
  set-low lo hi (past r m) l a = let i = set-low lo hi m l a.1 in omega arith
  set-low lo hi (leaf {row = row} {n = n} {xs = xs} {x = x} g s f m) l a =
      let p = fits-plain f in
      let r = (inner-rule row lo hi n (λ z. omega (arith, p.0))).1.0 in
      let c = set-column row n (is-set row lo hi) in
      let i = set-low lo hi m (length-set xs (column row n) x ∙ l) a.1 in
      let gap : get_or (drop 1 xs) n nothing ≡ nothing = get_drop xs n ∙ ap (λ (j : ℕ). get_or xs j nothing) (sym c) ∙ g in
      let z = length-drop1 xs l in
      let i0 : 0 + n ≡ n = omega arith in
      let k : size_from least 0 (drop 1 (set xs (column row n) x)) ≡ size_from least 0 (drop 1 xs) + length (member_octets least n x) =
      ap (λ (j : ℕ). size_from least 0 (drop 1 (set xs j x))) c ∙ ap (size_from least 0) (drop-set xs n x) ∙ size-set least 0 (drop 1 xs) n x (omega arith) gap
      ∙ ap (λ (j : ℕ). size_from least 0 (drop 1 xs) + length (member_octets least j x)) i0 in
      let q = leaf-low {n = n} (omega arith) s a.0.0 in
      omega arith
  set-low lo hi (contents {row = row} {n = n} r c m) l a = let i = (inner-rule row lo hi n (λ z. omega arith)).0 in absurd (omega arith)
  set-low lo hi (kids {row = row} {n = n} r i m) l a = let i = (inner-rule row lo hi n (λ z. omega arith)).0 in absurd (omega arith)
  set-low lo hi (links {row = row} {n = n} r i m) l a = let i = (inner-rule row lo hi n (λ z. omega arith)).0 in absurd (omega arith)

  -- an element's own members and its contents
  abbrev body_size : ℕ → List Content → ℕ
  body_size kind xs = length (wrapped 1 0 17 (members_octets least 0 (inner kind xs)))

  abbrev kids_size : Trees → ℕ
  kids_size t = length (wrapped 2 1 4 (trees_octets least t))

  abbrev links_size : Trees → ℕ
  links_size t = length (wrapped 5 0 16 (trees_octets least t))

  -- contents that have not come are empty
  abbrev Bare : ℕ → ℕ → List Content → Type 0
  Bare row m xs = (grammar.contents_of row ≡ 0 → ⊥) → m ≤ 1 → (c : ℕ) → 1 ≤ c → get_or xs c nothing ≡ nothing

  module _ (kind : ℕ) (xs ys : List Content) (some : grammar.contents_of kind ≡ 0 → ⊥) (long : length xs ≡ 16) (long' : length ys ≡ 16)
      (bare : (c : ℕ) → 1 ≤ c → get_or xs c nothing ≡ nothing) (first : get_or ys 0 nothing ≡ get_or xs 0 nothing) where
    none_yet : size_from least 0 (drop 1 xs) ≡ 0
    none_yet =
        ap (size_from least 0) (all_nothing (drop 1 xs) (λ n. get_drop xs n ∙ bare (suc n) (omega arith))) ∙ nothings-size least 0 (length (drop 1 xs))

    own_same : size_from least 0 (own kind ys) ≡ size_from least 0 (own kind xs)
    own_same = ap (size_from least 0) (own-zero kind ys some long' ∙ ap (λ (x : Content). x ∷ []) first ∙ sym (own-zero kind xs some long))

    body-low : (n : ℕ) → size_from least 0 (drop 1 ys) ≤ size_from least 0 (drop 1 xs) + n → body_size kind ys ≤ around (around n + 0)
    body-low n h =
        let a = wrapped-size 1 0 17 (members_octets least 0 (inner kind ys)) (omega arith) (omega arith) in
        let e : size_from least 0 (inner kind ys) ≡ size_from least 0 (drop 1 ys) = ap (size_from least 0) (inner-drop kind ys some) in
        let z = none_yet in
        let b = around-more (size_from least 0 (inner kind ys)) n (omega arith) in
        let c = around-more (around (size_from least 0 (inner kind ys))) (around n + 0) (omega arith) in
        omega arith

  list-low : (m class number : ℕ) (t : Trees) (n : ℕ) → m < 31 → number < 31 → length (trees_octets least t) ≤ n
      → length (wrapped m class number (trees_octets least t)) ≤ around (around n + 0)
  list-low m class number t n h k l =
      let a = wrapped-size m class number (trees_octets least t) h k in
      let b = around-more (length (trees_octets least t)) n l in
      let c = around-more (around (length (trees_octets least t))) (around n + 0) (omega arith) in
      omega arith

  -- the octets of an element and of what comes after it
  tree-size : (kind : ℕ) → Kind kind → (xs : List Content) (t u rest : Trees)
      → length (trees_octets least (tree kind xs t u rest))
      ≡ around (around (size_from least 0 (own kind xs) + (body_size kind xs + (kids_size t + links_size u)))) + length (trees_octets least rest)
  unfolding trees_octets
  tree-size kind kk xs t u rest =
      let a = members_octets least 0 (own kind xs) in
      let b = wrapped 1 0 17 (members_octets least 0 (inner kind xs)) in
      let c = wrapped 2 1 4 (trees_octets least t) in
      let d = wrapped 5 0 16 (trees_octets least u) in
      let f = outer-size 0 1 true (get_or applications kind 0) (a ++ (b ++ (c ++ d))) (omega arith) (application-short kind kk) in
      length-append (tagged 2 true 0 (tagged 1 true (get_or applications kind 0) (a ++ (b ++ (c ++ d))))) (trees_octets least rest)
      ∙ ap (λ (n : ℕ). n + length (trees_octets least rest)) (f ∙ ap (λ (n : ℕ). around (around n)) (four a b c d))

  none-size : (kids_size none ≡ 0) × (links_size none ≡ 0)
  unfolding trees_octets wrapped
  none-size = (refl, refl)

  trees-none : length (trees_octets least none) ≡ 0
  unfolding trees_octets
  trees-none = refl

  abbrev Low : ℕ → List Content → Values → List Content → Trees → Trees → Type 0
  Low row xs v ys t u =
      size_from least 0 (own row ys) + (body_size row ys + (kids_size t + links_size u)) ≤ size_from least 0 (own row xs) + (body_size row xs + low v)

  -- one step, with what comes after it
  leaf-step : (row n type : ℕ) (xs ys : List Content) (content : List ℕ) (x : Content) (rest : Values) (t u : Trees) → Kind row → 0 < rule_of row n
      → rule_of row n < 13
      → length xs ≡ 16 → get_or xs (column row n) nothing ≡ nothing → Says type content x → Enough 0 type content
      → Low row (set xs (column row n) x) rest ys t u → Low row xs (nest values.definite 2 n (plain 0 type content end) rest) ys t u
  leaf-step row n type xs ys content x rest t u kk some plainly l g s e r =
      let pl = plain_at row kk n (λ z. omega arith) plainly in
      let q : column row n ≡ n = seq-column row kk n n in
      let small = pl.low in
      let gap : get_or xs n nothing ≡ nothing = ap (λ (j : ℕ). get_or xs j nothing) (sym q) ∙ g in
      let a : size_from least 0 (own row (set xs (column row n) x)) ≡ size_from least 0 (own row xs) + length (member_octets least n x) =
      ap (λ (j : ℕ). size_from least 0 (own row (set xs j x))) q ∙ own-set row least n xs x pl.alone (omega arith) gap in
      let b : body_size row (set xs (column row n) x) ≡ body_size row xs =
      ap (λ (j : ℕ). body_size row (set xs j x)) q
      ∙ ap (λ (y : List Content). length (wrapped 1 0 17 (members_octets least 0 y))) (inner-set row n xs x pl.alone) in
      let c = leaf-low {n = n} (omega arith) s e in
      omega arith

  leaf-bare : (row n m : ℕ) (xs : List Content) (x : Content) → Kind row → 0 < rule_of row n → rule_of row n < 13 → m ≤ n → Bare row m xs
      → Bare row (suc n) (set xs (column row n) x)
  leaf-bare row n m xs x kk some plainly h w k j c l =
      let q : column row n ≡ n = seq-column row kk n n in
      get_other xs (column row n) c x nothing (λ z. omega arith) ∙ w k (omega arith) c l

  over-bare : (row n m : ℕ) (xs : List Content) → m ≤ n → Bare row m xs → Bare row (suc n) xs
  over-bare row n m xs h w k j c l = w k (omega arith) c l

  contents-step : (row n : ℕ) (path : List ℕ) (xs ys zs : List Content) (inside rest : Values) (f : values.Form) (t u : Trees) → Kind row
      → rule_of row n ≡ 13 → length xs ≡ 16 → (m : ℕ) → m ≤ n → Bare row m xs
      → Members path (grammar.contents_of row) xs inside ys none none → All Enough inside → Low row ys rest zs t u
      → Low row xs (nest f 2 n (nest f 0 17 inside end) rest) zs t u
  contents-step row n path xs ys zs inside rest f t u kk rule l m h w i a r =
      let b = body_at row kk n rule in
      let b0 = b.0 in
      let lo = b.1.0 in
      let some : grammar.contents_of row ≡ 0 → ⊥ = λ z. omega arith in
      let l' : length ys ≡ 16 = members-length i ∙ l in
      let bare = w some (omega arith) in
      let first = set-zero b.1.0 b.1.1 i in
      let s = set-low b.1.0 b.1.1 i l a in
      let x = own_same row xs ys some l l' bare first in
      let y = body-low row xs ys some l l' bare first (low inside) s in
      omega arith

  absent_none : (kind : ℕ) → (size_from least 0 (own kind absent) ≡ 0) × (body_size kind absent ≡ 0)
  unfolding nothings
  absent_none kind = (blank-own kind least, blank-body kind least)

  mutual
    members-low : {path : List ℕ} {row : ℕ} {xs ys : List Content} {v : Values} {t u : Trees} → Kind row → Members path row xs v ys t u
        → length xs ≡ 16 → (m : ℕ) → Ascending m v → Bare row m xs → All Enough v → Low row xs v ys t u
    members-low kk done l m o w a = let z = none-size in let z0 = z.0 in let z1 = z.1 in omega arith
    members-low kk (over {row = row} {n = n} {xs = xs} r d) l m o w a =
        let i = members-low kk d l (suc n) o.1 (over-bare row n m xs o.0 w) a.1 in omega arith
    members-low kk (past {row = row} {n = n} {xs = xs} r d) l m o w a =
        let i = members-low kk d l (suc n) o.1 (over-bare row n m xs o.0 w) a.1 in omega arith
    members-low kk (leaf {row = row} {n = n} {type = type} {xs = xs} {ys = ys} {content = content} {x = x} {rest = rest} {t = t} {u = u} g s f d) l m o w a =
        let p = fits-plain f in
        leaf-step row n type xs ys content x rest t u kk p.0 p.1 l g s a.0.0
        (members-low kk d (length-set xs (column row n) x ∙ l) (suc n) o.1 (leaf-bare row n m xs x kk p.0 p.1 o.0 w) a.1)
    members-low kk (contents {path = path} {row = row} {n = n} {xs = xs} {ys = ys} {zs = zs} {form = f} {inside = inside} {rest = rest} {t = t} {u =
        u} r c d) l m o w a =
        contents-step row n path xs ys zs inside rest f t u kk r l m o.0 w c a.0.0
        (members-low kk d (members-length c ∙ l) (suc n) o.1
        (λ k j. let b = (body_at row kk n r).0 in absurd (omega arith)) a.1)
    members-low kk (kids {row = row} {n = n} {xs = xs} {inside = inside} {t = t} r i d) l m o w a =
        let q = members-low kk d l (suc n) o.1 (over-bare row n m xs o.0 w) a.1 in
        let z = none-size.0 in
        let y = list-low 2 1 4 t (low inside) (omega arith) (omega arith) (items-low i a.0.0) in
        omega arith
    members-low kk (links {row = row} {n = n} {xs = xs} {inside = inside} {u = u} r i d) l m o w a =
        let q = members-low kk d l (suc n) o.1 (over-bare row n m xs o.0 w) a.1 in
        let z = none-size.1 in
        let y = list-low 5 0 16 u (low inside) (omega arith) (omega arith) (items-low i a.0.0) in
        omega arith

    items-low : {which : ℕ} {path : List ℕ} {v : Values} {t : Trees} → Items which path v t → All Enough v → length (trees_octets least t) ≤ low v
    items-low ended a = let z = trees-none in omega arith
    items-low (encodes.item {which = which} {kind = kind} {inside = inside} {xs = xs} {t = t} {u = u} {more = more} st app o d c i) a =
        let kk = stands-kind which kind st in
        let m = members-low kk d refl 0 o (λ k j c l. absent-at c) a.0.0 in
        let e = tree-size kind kk xs t u more in
        let r = items-low i a.1 in
        let z = absent_none kind in
        let z0 = z.0 in
        let z1 = z.1 in
        let n = size_from least 0 (own kind xs) + (body_size kind xs + (kids_size t + links_size u)) in
        let p = around-more n (low inside) (omega arith) in
        let q = around-more (around n) (around (low inside) + 0) (omega arith) in
        omega arith

  -- the whole message
  message-size : (root : ℕ) (t : Trees) → length (message_octets least root t) ≡ around (around (length (trees_octets least t)))
  unfolding message_octets
  message-size root t =
      tagged-size 1 true 0 (tagged 1 true (root_number root) (trees_octets least t)) (omega arith)
      ∙ ap around (tagged-size 1 true (root_number root) (trees_octets least t) (root-short root))

  pub message-low : (s : List ℕ) → Below 256 s → length s ≤ 16384 → (root : ℕ) (t : Trees) (e : Encodes s root t) → All Enough e.items
      → length (message_octets least root t) ≤ length s
  message-low s b h root t e a =
      let l = spells-low e.spelled b h in
      let i = items-low e.says a in
      let m = message-size root t in
      let p = around-more (length (trees_octets least t)) (low e.items) i in
      let q = around-more (around (length (trees_octets least t))) (around (low e.items) + 0) (omega arith) in
      omega arith
