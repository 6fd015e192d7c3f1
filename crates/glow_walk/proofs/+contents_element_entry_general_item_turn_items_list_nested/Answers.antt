use Prim.Native.Nat.{◌<◌}
use mathlib.Core.Path.{refl, ap, subst, ◌∙◌}
use native.Mathlib.Omega.{arith}
use Rattle.ber_containers.proofs.Laws.{enter-ended}
use Rattle.glow_steps.specs.Progress.{MemberOnward, ItemOnward}
use Rattle.glow_steps.proofs.Laws.{item-done}
use Rattle.glow_steps.proofs.Quick.{quick-contents, quick-items, quick-element}
use Rattle.glow_walk.specs.declared.Cursor.{Cursor}
use Rattle.glow_walk.specs.Progress.{TurnOnward}
use Rattle.glow_walk.proofs.Held.{members-begin, members-on, members-end, members-stop, members-ended, ended-onward, turn-done, turn-no}
use Rattle.glow_walk.proofs.Held.{turn-over, turn-leaf}
use Rattle.glow_walk.proofs.Held.{turn-contents, turn-items, items-begin, items-on, items-end, items-stop, item-turn-done, item-turn-no}
use Rattle.glow_walk.proofs.Held.{turn-element, contents-fill, list-fill, entry-fill}
use Rattle.glow_walk.proofs.+contents_element_entry_general_item_turn_items_list_nested.Goals as goal

pub contents-element-w-requires : goal.contents-element-w-requires
contents-element-w-requires t c = let q = c.requires in (omega arith, (q.0, q.1))

pub contents-shape_of-table : goal.contents-shape_of-table
contents-shape_of-table t c = c.element-w.auto.table

pub contents-returns : goal.contents-returns
contents-returns t c =
    record {
      contents_fill = contents-fill _ _ _ _ _ _ c.less-k.ensures c.contents_of-row.ensures c.element-w.ensures.members_fill c.close.ensures.closes;
      walked_onward = c.close.ensures.keeps _ _ c.element-w.ensures.walked_onward;
    }

pub element-loop-o-init : goal.element-loop-o-init
element-loop-o-init t c =
    let p = ap (λ (y : Cursor). y.place) c.begin-at.ensures in
    let n = ap (λ (y : Cursor). y.count) c.begin-at.ensures in
    let q = c.requires in
    record {
      onward = omega (arith, p);
      enough = omega (arith, p, n, q.1);
      later = omega (arith, n);
      same = refl;
      held = λ es base e h. members-begin _ _ _ _ _ _ _ _ es base c.begin-at.ensures e h;
    }

pub element-shape_of-table-then-z : goal.element-shape_of-table-then-z
element-shape_of-table-then-z t c =
    let the-loop = c.loop-o in
    the-loop.invariant.same

pub element-returns-then-z : goal.element-returns-then-z
element-returns-then-z t c =
    let the-loop = c.loop-o in
    let i = the-loop.invariant in
    let z = c.shut-z.ensures c.if-z.true in
    record {
      members_fill = record { filled = λ es base e h. members-ended _ _ _ _ _ _ (i.held es base e h) (enter-ended _ _ _ _ z.0) c.ended.ensures };
      walked_onward = ended-onward _ _ _ _ _ c.ended.ensures i.onward z.1 i.enough i.later;
    }

pub element-leaf-requires : goal.element-leaf-requires
element-leaf-requires t c =
    let the-loop = c.loop-o in
    let x = c.is_leaf.ensures.fact c.if-is_leaf.true in
    let h = c.rule_at-what.ensures x.0 in
    let f = h.pair.fits (h.suits.plain x.1).1 in
    (h.pair.inside, (omega (arith, f, h.top), the-loop.invariant.enough))

pub element-loop-o-smaller-in-On : goal.element-loop-o-smaller-in-On
element-loop-o-smaller-in-On t c =
    let u = subst (TurnOnward _ _ _) c.in-On.is c.leaf.ensures.turn_onward in
    omega (arith, u.0, u.1.0)

pub element-loop-o-preserved-in-On : goal.element-loop-o-preserved-in-On
element-loop-o-preserved-in-On t c =
    let the-loop = c.loop-o in
    let i = the-loop.invariant in
    let u = subst (TurnOnward _ _ _) c.in-On.is c.leaf.ensures.turn_onward in
    let x = c.is_leaf.ensures.fact c.if-is_leaf.true in
    let q = c.requires in
    record {
      onward = omega (arith, i.onward, u.1.0);
      enough = u.1.1.0;
      later = omega (arith, i.later, u.1.1.1);
      same = c.leaf.auto.table ∙ i.same;
      held = λ es base e h. members-on _ _ _ _ _ _ (i.held es base e h)
          (c.leaf.ensures.leaf_turn.turned _ _ (c.rule_at-what.ensures x.0) x.0 x.1 (omega (arith, i.later, q.0))) c.in-On.is;
    }

pub element-shape_of-table-in-Read : goal.element-shape_of-table-in-Read
element-shape_of-table-in-Read t c =
    let the-loop = c.loop-o in
    c.leaf.auto.table ∙ the-loop.invariant.same

pub element-returns-in-Read : goal.element-returns-in-Read
element-returns-in-Read t c =
    let the-loop = c.loop-o in
    let i = the-loop.invariant in
    let x = c.is_leaf.ensures.fact c.if-is_leaf.true in
    let q = c.requires in
    let u = subst (TurnOnward _ _ _) c.in-Read.is c.leaf.ensures.turn_onward in record {
      members_fill = record {
        filled = λ es base e h. members-end _ _ _ _ _ _ (i.held es base e h)
            (c.leaf.ensures.leaf_turn.turned _ _ (c.rule_at-what.ensures x.0) x.0 x.1 (omega (arith, i.later, q.0))) c.in-Read.is;
      };
      walked_onward = (omega (arith, i.onward, u.0), (u.1.0, omega (arith, i.later, u.1.1)));
    }

pub element-shape_of-table-in-Refused : goal.element-shape_of-table-in-Refused
element-shape_of-table-in-Refused t c =
    let the-loop = c.loop-o in
    c.leaf.auto.table ∙ the-loop.invariant.same

pub element-returns-in-Refused : goal.element-returns-in-Refused
element-returns-in-Refused t c =
    let the-loop = c.loop-o in
    let i = the-loop.invariant in
    let x = c.is_leaf.ensures.fact c.if-is_leaf.true in
    let q = c.requires in record {
      members_fill = record {
        filled = λ es base e h. members-stop _ _ _ _ _ _ (i.held es base e h)
            (c.leaf.ensures.leaf_turn.turned _ _ (c.rule_at-what.ensures x.0) x.0 x.1 (omega (arith, i.later, q.0))) c.in-Refused.is;
      };
      walked_onward = tt;
    }

pub element-nested-requires : goal.element-nested-requires
element-nested-requires t c =
    let the-loop = c.loop-o in
    let i = the-loop.invariant in
    let q = c.requires in (
      omega (arith, i.onward),
      record {
        told = c.rule_at-what.ensures;
        holds = c.is_leaf.ensures.body_le_what c.if-is_leaf.false;
        mine = omega (arith, i.later, q.0);
        enough = i.enough;
      },
    )

pub element-loop-o-smaller : goal.element-loop-o-smaller
element-loop-o-smaller t c =
    let u = subst (TurnOnward _ _ _) c.in-On-nested.is c.nested.ensures.turn_onward in
    omega (arith, u.0, u.1.0)

pub element-loop-o-preserved : goal.element-loop-o-preserved
element-loop-o-preserved t c =
    let the-loop = c.loop-o in
    let i = the-loop.invariant in
    let u = subst (TurnOnward _ _ _) c.in-On-nested.is c.nested.ensures.turn_onward in
    record {
      onward = omega (arith, i.onward, u.1.0);
      enough = u.1.1.0;
      later = omega (arith, i.later, u.1.1.1);
      same = c.nested.auto.table ∙ i.same;
      held = λ es base e h. members-on _ _ _ _ _ _ (i.held es base e h) c.nested.ensures.members_turn c.in-On-nested.is;
    }

pub element-shape_of-table-in-Read-nested : goal.element-shape_of-table-in-Read-nested
element-shape_of-table-in-Read-nested t c =
    let the-loop = c.loop-o in
    c.nested.auto.table ∙ the-loop.invariant.same

pub element-returns-in-Read-nested : goal.element-returns-in-Read-nested
element-returns-in-Read-nested t c =
    let the-loop = c.loop-o in
    let i = the-loop.invariant in
    let u = subst (TurnOnward _ _ _) c.in-Read-nested.is c.nested.ensures.turn_onward in
    record {
      members_fill = record { filled = λ es base e h. members-end _ _ _ _ _ _ (i.held es base e h) c.nested.ensures.members_turn c.in-Read-nested.is };
      walked_onward = (omega (arith, i.onward, u.0), (u.1.0, omega (arith, i.later, u.1.1)));
    }

pub element-shape_of-table-in-Refused-nested : goal.element-shape_of-table-in-Refused-nested
element-shape_of-table-in-Refused-nested t c =
    let the-loop = c.loop-o in
    c.nested.auto.table ∙ the-loop.invariant.same

pub element-returns-in-Refused-nested : goal.element-returns-in-Refused-nested
element-returns-in-Refused-nested t c =
    let the-loop = c.loop-o in
    let i = the-loop.invariant in
    record {
      members_fill = record { filled = λ es base e h. members-stop _ _ _ _ _ _ (i.held es base e h) c.nested.ensures.members_turn c.in-Refused-nested.is };
      walked_onward = tt;
    }

pub entry-overflow_add-me : goal.entry-overflow_add-me
entry-overflow_add-me t c = let q = c.requires in omega (arith, q)

pub entry-element-w-requires : goal.entry-element-w-requires
entry-element-w-requires t c = let q = c.requires in (omega arith, (omega arith, omega (arith, q)))

pub entry-shape_of-table : goal.entry-shape_of-table
entry-shape_of-table t c = c.element-w.auto.table ∙ c.blank.auto.table

pub entry-returns : goal.entry-returns
entry-returns t c =
    record {
      entry_fill = entry-fill _ _ _ _ _ _ c.less-k.ensures c.word.ensures c.blank.ensures c.element-w.ensures.members_fill c.close.ensures.closes;
      walked_onward = c.close.ensures.keeps _ _ c.element-w.ensures.walked_onward;
    }

pub general-contents-w-requires : goal.general-contents-w-requires
general-contents-w-requires t c =
    let w = subst (MemberOnward _ _) c.in-Contents.is c.member_at.ensures.member_onward in
    let q = c.requires in
    (omega (arith, w.0, w.1), (q.0, omega (arith, w.1, q.1)))

pub general-overflow_add-me : goal.general-overflow_add-me
general-overflow_add-me t c =
    let w = subst (MemberOnward _ _) c.in-Items.is c.member_at.ensures.member_onward in
    let q = c.requires in
    let l = c.type_inv.s in
    omega (arith, w.0, q.0, q.1)

pub general-list-w-requires : goal.general-list-w-requires
general-list-w-requires t c =
    let w = subst (MemberOnward _ _) c.in-Items.is c.member_at.ensures.member_onward in
    let q = c.requires in
    (omega (arith, w.0, w.1), omega (arith, w.1, q.1))

pub general-returns-in-Done : goal.general-returns-in-Done
general-returns-in-Done t c =
    let w = subst (MemberOnward _ _) c.in-Done.is c.member_at.ensures.member_onward in
    let q = c.requires in
    record {
      members_turn = turn-done _ _ _ _ _ _ (c.member_at.ensures.before_value ∙ c.in-Done.is);
      turn_onward = (w, (omega (arith, w, q.1), omega arith));
    }

pub general-returns-in-Refused : goal.general-returns-in-Refused
general-returns-in-Refused t c = record { members_turn = turn-no _ _ _ _ _ _ (c.member_at.ensures.before_value ∙ c.in-Refused.is); turn_onward = tt }

pub general-returns-in-Over : goal.general-returns-in-Over
general-returns-in-Over t c =
    let w = subst (MemberOnward _ _) c.in-Over.is c.member_at.ensures.member_onward in
    let both = turn-over _ _ _ _ _ _ (c.member_at.ensures.before_value ∙ c.in-Over.is) w.0 w.1 c.requires.1 c.on.ensures in
    record { members_turn = both.0; turn_onward = both.1 }

pub general-shape_of-table-in-Leaf : goal.general-shape_of-table-in-Leaf
general-shape_of-table-in-Leaf t c = c.put_cell.auto.table

pub general-returns-in-Leaf : goal.general-returns-in-Leaf
general-returns-in-Leaf t c =
    let w = subst (MemberOnward _ _) c.in-Leaf.is c.member_at.ensures.member_onward in
    let q = c.requires in
    let both = turn-leaf _ _ _ _ _ _ (c.member_at.ensures.before_value ∙ c.in-Leaf.is) w.0 w.1 q.0 q.1 c.put_cell.ensures c.on-in-Leaf.ensures in
    record { members_turn = both.0; turn_onward = both.1 }

pub general-shape_of-table-in-Contents : goal.general-shape_of-table-in-Contents
general-shape_of-table-in-Contents t c = c.contents-w.auto.table

pub general-returns-in-Contents : goal.general-returns-in-Contents
general-returns-in-Contents t c =
    let w = subst (MemberOnward _ _) c.in-Contents.is c.member_at.ensures.member_onward in
    let both = turn-contents _ _ _ _ _ _ (c.member_at.ensures.before_value ∙ c.in-Contents.is) w.0 w.1 c.contents-w.ensures.contents_fill
    c.contents-w.ensures.walked_onward
    c.onward.ensures in record { members_turn = both.0; turn_onward = both.1 }

pub general-shape_of-table-in-Items : goal.general-shape_of-table-in-Items
general-shape_of-table-in-Items t c = c.list-w.auto.table

pub general-returns-in-Items : goal.general-returns-in-Items
general-returns-in-Items t c =
    let w = subst (MemberOnward _ _) c.in-Items.is c.member_at.ensures.member_onward in
    let both = turn-items _ _ _ _ _ _ (c.member_at.ensures.before_value ∙ c.in-Items.is) w.0 w.1 c.list-w.ensures.list_fill
    c.list-w.ensures.walked_onward
    c.onward-in-Items.ensures in record { members_turn = both.0; turn_onward = both.1 }

pub item_turn-returns-then-z : goal.item_turn-returns-then-z
item_turn-returns-then-z t c =
    let z = c.shut-z.ensures c.if-z.true in
    let q = c.requires in
    record {
      items_turn = item-turn-done _ _ _ _ _ _ (item-done _ _ _ _ _ (enter-ended _ _ _ _ z.0));
      turn_onward = (z.1, (omega (arith, z.1, q), omega arith));
    }

pub item_turn-overflow_add-from : goal.item_turn-overflow_add-from
item_turn-overflow_add-from t c = let i = (c.kind_at-quick.ensures c.if-quick-ne0.true).pair.inside in omega (arith, i)

pub item_turn-overflow_add-p : goal.item_turn-overflow_add-p
item_turn-overflow_add-p t c = let i = (c.kind_at-quick.ensures c.if-quick-ne0.true).pair.inside in omega (arith, i)

pub item_turn-bounds-s-p : goal.item_turn-bounds-s-p
item_turn-bounds-s-p t c = (c.kind_at-quick.ensures c.if-quick-ne0.true).pair.inside

pub item_turn-opened-inner-requires : goal.item_turn-opened-inner-requires
item_turn-opened-inner-requires t c =
    let h = c.kind_at-quick.ensures c.if-quick-ne0.true in
    let e = c.size.ensures in
    λ l. let f = h.pair.fits (subst (λ y. y < 128) e l) in omega (arith, e, f)

pub item_turn-overflow_sub-k : goal.item_turn-overflow_sub-k
item_turn-overflow_sub-k t c = let r = (c.kind_at-quick.ensures c.if-quick-ne0.true).room in omega (arith, r)

pub item_turn-entry-w-requires : goal.item_turn-entry-w-requires
item_turn-entry-w-requires t c =
    let i = (c.kind_at-quick.ensures c.if-quick-ne0.true).pair.inside in
    let q = c.requires in
    (omega (arith, i), omega (arith, q))

pub item_turn-shape_of-table-then-quick-ne0 : goal.item_turn-shape_of-table-then-quick-ne0
item_turn-shape_of-table-then-quick-ne0 t c = c.entry-w.auto.table

pub item_turn-returns-then-quick-ne0 : goal.item_turn-returns-then-quick-ne0
item_turn-returns-then-quick-ne0 t c =
    let h = c.kind_at-quick.ensures c.if-quick-ne0.true in
    let i = h.pair.inside in
    let both = turn-element _ _ _ _ _ _ (quick-element _ _ _ _ _ _ h c.if-quick-ne0.true c.size.ensures c.opened-inner.ensures) (omega (arith, i))
    (omega arith)
    c.entry-w.ensures.entry_fill c.entry-w.ensures.walked_onward c.onward.ensures in record { items_turn = both.0; turn_onward = both.1 }

pub item_turn-entry-w-requires-in-Element : goal.item_turn-entry-w-requires-in-Element
item_turn-entry-w-requires-in-Element t c =
    let w = subst (ItemOnward _ _) c.in-Element.is c.item_at.ensures.item_onward in
    let q = c.requires in
    (omega (arith, w.0, w.1), omega (arith, q, w.1))

pub item_turn-returns-in-Done : goal.item_turn-returns-in-Done
item_turn-returns-in-Done t c =
    let w = subst (ItemOnward _ _) c.in-Done.is c.item_at.ensures.item_onward in
    let q = c.requires in
    record {
      items_turn = item-turn-done _ _ _ _ _ _ (c.item_at.ensures.which_value ∙ c.in-Done.is);
      turn_onward = (w, (omega (arith, w, q), omega arith));
    }

pub item_turn-returns-in-Refused : goal.item_turn-returns-in-Refused
item_turn-returns-in-Refused t c = record { items_turn = item-turn-no _ _ _ _ _ _ (c.item_at.ensures.which_value ∙ c.in-Refused.is); turn_onward = tt }

pub item_turn-shape_of-table : goal.item_turn-shape_of-table
item_turn-shape_of-table t c = c.entry-w-in-Element.auto.table

pub item_turn-returns-in-Element : goal.item_turn-returns-in-Element
item_turn-returns-in-Element t c =
    let w = subst (ItemOnward _ _) c.in-Element.is c.item_at.ensures.item_onward in
    let both = turn-element _ _ _ _ _ _ (c.item_at.ensures.which_value ∙ c.in-Element.is) w.0 w.1 c.entry-w-in-Element.ensures.entry_fill
    c.entry-w-in-Element.ensures.walked_onward
    c.onward-in-Element.ensures in record { items_turn = both.0; turn_onward = both.1 }

pub items-loop-next-init : goal.items-loop-next-init
items-loop-next-init t c =
    let p = ap (λ (y : Cursor). y.place) c.begin-at.ensures in
    let n = ap (λ (y : Cursor). y.count) c.begin-at.ensures in
    let q = c.requires in
    record {
      onward = omega (arith, p);
      enough = omega (arith, p, n, q);
      later = omega (arith, n);
      same = refl;
      held = λ es base e h. items-begin _ _ _ _ _ _ _ _ es base c.begin-at.ensures e h;
    }

pub items-item_turn-requires : goal.items-item_turn-requires
items-item_turn-requires t c =
    let the-loop = c.loop-next in
    let i = the-loop.invariant in
    (omega (arith, i.onward), i.enough)

pub items-loop-next-smaller : goal.items-loop-next-smaller
items-loop-next-smaller t c =
    let u = subst (TurnOnward _ _ _) c.in-On.is c.item_turn.ensures.turn_onward in
    omega (arith, u.0, u.1.0)

pub items-loop-next-preserved : goal.items-loop-next-preserved
items-loop-next-preserved t c =
    let the-loop = c.loop-next in
    let i = the-loop.invariant in
    let u = subst (TurnOnward _ _ _) c.in-On.is c.item_turn.ensures.turn_onward in
    record {
      onward = omega (arith, i.onward, u.1.0);
      enough = u.1.1.0;
      later = omega (arith, i.later, u.1.1.1);
      same = c.item_turn.auto.table ∙ i.same;
      held = λ es base e h. items-on _ _ _ _ _ _ (i.held es base e h) c.item_turn.ensures.items_turn c.in-On.is;
    }

pub items-shape_of-table-in-Read : goal.items-shape_of-table-in-Read
items-shape_of-table-in-Read t c =
    let the-loop = c.loop-next in
    c.item_turn.auto.table ∙ the-loop.invariant.same

pub items-returns-in-Read : goal.items-returns-in-Read
items-returns-in-Read t c =
    let the-loop = c.loop-next in
    let i = the-loop.invariant in
    let u = subst (TurnOnward _ _ _) c.in-Read.is c.item_turn.ensures.turn_onward in
    record {
      items_fill = record { filled = λ es base e h. items-end _ _ _ _ _ _ (i.held es base e h) c.item_turn.ensures.items_turn c.in-Read.is };
      walked_onward = (omega (arith, i.onward, u.0), (u.1.0, omega (arith, i.later, u.1.1)));
    }

pub items-shape_of-table-in-Refused : goal.items-shape_of-table-in-Refused
items-shape_of-table-in-Refused t c =
    let the-loop = c.loop-next in
    c.item_turn.auto.table ∙ the-loop.invariant.same

pub items-returns-in-Refused : goal.items-returns-in-Refused
items-returns-in-Refused t c =
    let the-loop = c.loop-next in
    let i = the-loop.invariant in
    record {
      items_fill = record { filled = λ es base e h. items-stop _ _ _ _ _ _ (i.held es base e h) c.item_turn.ensures.items_turn c.in-Refused.is };
      walked_onward = tt;
    }

pub list-items-w-requires : goal.list-items-w-requires
list-items-w-requires t c = let q = c.requires in (omega arith, q)

pub list-shape_of-table : goal.list-shape_of-table
list-shape_of-table t c = c.items-w.auto.table

pub list-returns : goal.list-returns
list-returns t c =
    record {
      list_fill = list-fill _ _ _ _ _ _ c.less-k.ensures c.items-w.ensures.items_fill c.close.ensures.closes;
      walked_onward = c.close.ensures.keeps _ _ c.items-w.ensures.walked_onward;
    }

pub nested-bounds-s-p : goal.nested-bounds-s-p
nested-bounds-s-p t c =
    let q = c.over_at-z.ensures c.if-z.true in
    omega (arith, q.inside)

pub nested-returns-then-z : goal.nested-returns-then-z
nested-returns-then-z t c =
    let q = c.over_at-z.ensures c.if-z.true in
    let both = turn-over _ _ _ _ _ _ (rw (← c.after_unlisted-after.ensures) (q.over _ _ refl)) q.inside q.later c.requires.enough c.on.ensures in
    record { members_turn = both.0; turn_onward = both.1 }

pub nested-general-requires : goal.nested-general-requires
nested-general-requires t c = let q = c.requires in (omega arith, (q.mine, q.enough))

pub nested-shape_of-table-then-what-eq-NONE : goal.nested-shape_of-table-then-what-eq-NONE
nested-shape_of-table-then-what-eq-NONE t c = c.general.auto.table

pub nested-returns-then-what-eq-NONE : goal.nested-returns-then-what-eq-NONE
nested-returns-then-what-eq-NONE t c = record { members_turn = c.general.ensures.members_turn; turn_onward = c.general.ensures.turn_onward }

pub nested-bounds-s-p-2 : goal.nested-bounds-s-p-2
nested-bounds-s-p-2 t c = let i = (c.requires.told c.if-what-eq-NONE.false).pair.inside in omega (arith, i)

pub nested-overflow_add-from : goal.nested-overflow_add-from
nested-overflow_add-from t c = let i = (c.requires.told c.if-what-eq-NONE.false).pair.inside in omega (arith, i)

pub nested-overflow_add-p : goal.nested-overflow_add-p
nested-overflow_add-p t c = let i = (c.requires.told c.if-what-eq-NONE.false).pair.inside in omega (arith, i)

pub nested-bounds-s-p-3 : goal.nested-bounds-s-p-3
nested-bounds-s-p-3 t c = (c.requires.told c.if-what-eq-NONE.false).pair.inside

pub nested-opened-inner-requires : goal.nested-opened-inner-requires
nested-opened-inner-requires t c =
    let h = c.requires.told c.if-what-eq-NONE.false in
    let e = c.size.ensures in
    λ l. let f = h.pair.fits (subst (λ y. y < 128) e l) in omega (arith, e, f)

pub nested-overflow_sub-k : goal.nested-overflow_sub-k
nested-overflow_sub-k t c = let r = (c.requires.told c.if-what-eq-NONE.false).room in omega (arith, r)

pub nested-contents-w-requires : goal.nested-contents-w-requires
nested-contents-w-requires t c =
    let q = c.requires in
    let i = (q.told c.if-what-eq-NONE.false).pair.inside in
    (omega (arith, i), (q.mine, omega (arith, q.enough)))

pub nested-shape_of-table-then-what-eq-BODY : goal.nested-shape_of-table-then-what-eq-BODY
nested-shape_of-table-then-what-eq-BODY t c = c.contents-w.auto.table

pub nested-returns-then-what-eq-BODY : goal.nested-returns-then-what-eq-BODY
nested-returns-then-what-eq-BODY t c =
    let q = c.requires in
    let h = q.told c.if-what-eq-NONE.false in
    let i = h.pair.inside in let both = turn-contents _ _ _ _ _ _
    (quick-contents _ _ _ _ _ _ _ _ h c.if-what-eq-NONE.false c.wide.ensures.value c.size.ensures c.after_listed-after.ensures.n_value c.opened-inner.ensures
    c.if-what-eq-BODY.true)
    (omega (arith, i)) (omega arith) c.contents-w.ensures.contents_fill c.contents-w.ensures.walked_onward c.onward.ensures in record
    { members_turn = both.0; turn_onward = both.1 }

pub nested-overflow_add-parent : goal.nested-overflow_add-parent
nested-overflow_add-parent t c =
    let q = c.requires in
    let i = (q.told c.if-what-eq-NONE.false).pair.inside in
    let l = c.type_inv.s in
    omega (arith, i, q.mine, q.enough)

pub nested-overflow_sub-k-2 : goal.nested-overflow_sub-k-2
nested-overflow_sub-k-2 t c = let r = (c.requires.told c.if-what-eq-NONE.false).room in omega (arith, r)

pub nested-list-w-requires : goal.nested-list-w-requires
nested-list-w-requires t c =
    let q = c.requires in
    let i = (q.told c.if-what-eq-NONE.false).pair.inside in
    (omega (arith, i), omega (arith, q.enough))

pub nested-shape_of-table : goal.nested-shape_of-table
nested-shape_of-table t c = c.list-w.auto.table

pub nested-returns : goal.nested-returns
nested-returns t c =
    let q = c.requires in
    let h = q.told c.if-what-eq-NONE.false in
    let i = h.pair.inside in
    let b = q.holds c.if-what-eq-NONE.false in let both = turn-items _ _ _ _ _ _
    (quick-items _ _ _ _ _ _ _ _ h c.if-what-eq-NONE.false c.wide.ensures.value c.size.ensures c.after_listed-after.ensures.n_value
    c.opened-inner.ensures (omega (arith, b, c.if-what-eq-BODY.false)) c.collection_of-which.ensures)
    (omega (arith, i)) (omega arith) c.list-w.ensures.list_fill c.list-w.ensures.walked_onward c.onward-2.ensures in record
    { members_turn = both.0; turn_onward = both.1 }
