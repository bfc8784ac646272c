-- One step down: what a node stands for, by its child and the child's sibling.
use Rattle.std.proofs.Common.{◌≡◌, ◌⊎◌, inl, inr, ℕ, ◌<◌, ◌≤◌, ◌+◌, Bool, true, false, List, [], ◌∷◌, ◌++◌, length, refl, sym, ap, ◌∙◌, subst, arith, append-nil}
use Rattle.std.specs.Prelude.{Option, Some, None, not, nat_lt, ◌==◌}
use Rattle.std.specs.List.{list_all}
use Rattle.std.specs.Option.{option_or}
use Rattle.std.proofs.lemmas.Bool.{and_parts, and_from, ltb-true, lt-ltb, ne_eqb, not_from_false}
use Rattle.node_page.specs.Nodes.{Entry, fits, rises}
use Rattle.btree_cow.specs.Trees.{lies_in, border, Fan, is_past, nearest, value_of}
use Rattle.btree_cow.specs.Walks.{IsSibling, IsChoice, GoesOn}
use Rattle.btree_cow.proofs.Finds.{find_none_down, all_so, all_front, all_back, or_nothing}
use Rattle.btree_cow.proofs.Borders.{at_least, below, lies, raise}
use Rattle.btree_cow.proofs.Fans.{fan_split, fan_inside}
use Rattle.btree_cow.proofs.Nearest.{past_above, past_below, not_past_below, not_past_above, near_up, near_down, first_up, first_down, value_within, value_nowhere}

-- chunks before one of a rising list lie below it
pub rise_before : (before after : List Entry) (e : Entry) → rises (before ++ e ∷ after) ≡ true → list_all (λ (o : Entry). nat_lt o.0 e.0) before ≡ true
rise_before [] after e h = refl
rise_before (b ∷ before) after e h =
    let parts = and_parts (list_all (λ (o : Entry). nat_lt b.0 o.0) (before ++ e ∷ after)) (rises (before ++ e ∷ after)) h in
    and_from (nat_lt b.0 e.0) (list_all (λ (o : Entry). nat_lt o.0 e.0) before)
    (and_parts (nat_lt b.0 e.0) (list_all (λ (o : Entry). nat_lt b.0 o.0) after) (all_back (λ (o : Entry). nat_lt b.0 o.0) before (e ∷ after) parts.0)).0
    (rise_before before after e parts.1)

-- what all entries below a chunk, or above it, are not or are
differs_below : (q : ℕ) (es : List Entry) → list_all (λ (e : Entry). nat_lt e.0 q) es ≡ true → list_all (λ (e : Entry). not (e.0 == q)) es ≡ true
differs_below q es h = all_so (λ (e : Entry). nat_lt e.0 q) (λ (e : Entry). not (e.0 == q))
    (λ e l. let less : e.0 < q = ltb-true e.0 q l in not_from_false (e.0 == q) (ne_eqb e.0 q (λ same. omega arith))) es h

differs_above : (q : ℕ) (es : List Entry) → list_all (λ (e : Entry). nat_lt q e.0) es ≡ true → list_all (λ (e : Entry). not (e.0 == q)) es ≡ true
differs_above q es h = all_so (λ (e : Entry). nat_lt q e.0) (λ (e : Entry). not (e.0 == q))
    (λ e l. let more : q < e.0 = ltb-true q e.0 l in not_from_false (e.0 == q) (ne_eqb e.0 q (λ same. omega arith))) es h

none_up : (with : Bool) (q : ℕ) (es : List Entry) → list_all (λ (e : Entry). nat_lt e.0 q) es ≡ true → list_all (λ (e : Entry). not (is_past with true q e.0)) es ≡ true
none_up with q es h = all_so (λ (e : Entry). nat_lt e.0 q) (λ (e : Entry). not (is_past with true q e.0))
    (λ e l. not_from_false (is_past with true q e.0) (not_past_below with q e.0 (ltb-true e.0 q l))) es h

pub none_down : (with : Bool) (q : ℕ) (es : List Entry) → list_all (λ (e : Entry). nat_lt q e.0) es ≡ true → list_all (λ (e : Entry). not (is_past with false q e.0)) es ≡ true
none_down with q es h = all_so (λ (e : Entry). nat_lt q e.0) (λ (e : Entry). not (is_past with false q e.0))
    (λ e l. not_from_false (is_past with false q e.0) (not_past_above with q e.0 (ltb-true q e.0 l))) es h

all_up : (with : Bool) (q : ℕ) (es : List Entry) → list_all (λ (e : Entry). nat_lt q e.0) es ≡ true → list_all (λ (e : Entry). is_past with true q e.0) es ≡ true
all_up with q es h = all_so (λ (e : Entry). nat_lt q e.0) (λ (e : Entry). is_past with true q e.0) (λ e l. past_above with q e.0 (ltb-true q e.0 l)) es h

all_down : (with : Bool) (q : ℕ) (es : List Entry) → list_all (λ (e : Entry). nat_lt e.0 q) es ≡ true → list_all (λ (e : Entry). is_past with false q e.0) es ≡ true
all_down with q es h = all_so (λ (e : Entry). nat_lt e.0 q) (λ (e : Entry). is_past with false q e.0) (λ e l. past_below with q e.0 (ltb-true e.0 q l)) es h

-- what the children of a fan stand for
pub record IsSound (Below : ℕ → ℕ → Option ℕ → List Entry → Type 0) : Type 0 where
  pub inside : (at low : ℕ) (high : Option ℕ) (es : List Entry) → Below at low high es → list_all (lies_in low high) es ≡ true
  pub some : (at low : ℕ) (high : Option ℕ) (es : List Entry) → Below at low high es → 1 ≤ length es
  pub fit : (at low : ℕ) (high : Option ℕ) (es : List Entry) → Below at low high es → list_all fits es ≡ true

-- what a step down comes to
pub record Step (Below : ℕ → ℕ → Option ℕ → List Entry → Type 0) (with up : Bool) (q : ℕ) (entries : List Entry) (child : ℕ) (sibling : Option ℕ) : Type 0 where
  pub low : ℕ
  pub high : Option ℕ
  pub first : List Entry
  pub stands : Below child low high first
  pub value : value_of entries q ≡ value_of first q
  pub near : GoesOn Below with up q entries first sibling

module _ (Below : ℕ → ℕ → Option ℕ → List Entry → Type 0) (sound : IsSound Below) where
  fan_below : (at n : ℕ) (children entries : List Entry) → list_all (λ (e : Entry). nat_lt e.0 n) children ≡ true → Fan Below at children (Some n) entries → list_all (λ (e : Entry). nat_lt e.0 n) entries ≡ true
  fan_below at n children entries h fan =
      all_so (lies_in 0 (Some n)) (λ (e : Entry). nat_lt e.0 n) (λ e l. lt-ltb e.0 n (below 0 (Some n) e l)) entries
      (fan_inside Below sound.inside at 0 (Some n) children entries
      (all_so (λ (e : Entry). nat_lt e.0 n) (lies_in 0 (Some n)) (λ e l. lies 0 (Some n) e (omega arith) (ltb-true e.0 n l)) children h) fan)

  pub fan_above : (at low q : ℕ) (high : Option ℕ) (children entries : List Entry) → list_all (lies_in low high) children ≡ true → list_all (λ (e : Entry). nat_lt q e.0) children ≡ true
      → Fan Below at children high entries → list_all (λ (e : Entry). nat_lt q e.0) entries ≡ true
  fan_above at low q high children entries all h fan =
      all_so (lies_in (q + 1) high) (λ (e : Entry). nat_lt q e.0) (λ e l. let up : q + 1 ≤ e.0 = at_least (q + 1) high e l in lt-ltb q e.0 (omega arith)) entries
      (fan_inside Below sound.inside at (q + 1) high children entries (raise low q high children all h) fan)

  -- a node without a child at or below the chunk
  pub nowhere : (at low q : ℕ) (high : Option ℕ) (with : Bool) (children entries : List Entry) → list_all (lies_in low high) children ≡ true → list_all (λ (e : Entry). nat_lt q e.0) children ≡ true
      → Fan Below at children high entries → (value_of entries q ≡ None) × (nearest with false entries q ≡ None)
  nowhere at low q high with children entries all h fan =
      let above = fan_above at low q high children entries all h fan in
      (value_nowhere q entries (differs_above q entries above), find_none_down (λ (e : Entry). is_past with false q e.0) entries (none_down with q entries above))

  -- the parts before the child and behind it
  before_low : (at q : ℕ) (up : Bool) (before entries : List Entry) (chosen : Entry) → list_all (λ (e : Entry). nat_lt e.0 chosen.0) before ≡ true → (chosen.0 ≤ q) ⊎ ((up ≡ true) × (before ≡ []))
      → Fan Below at before (Some chosen.0) entries → list_all (λ (e : Entry). nat_lt e.0 q) entries ≡ true
  before_low at q up before entries chosen h (inl upto) fan =
      all_so (λ (e : Entry). nat_lt e.0 chosen.0) (λ (e : Entry). nat_lt e.0 q) (λ e l. let less : e.0 < chosen.0 = ltb-true e.0 chosen.0 l in lt-ltb e.0 q (omega arith)) entries
      (fan_below at chosen.0 before entries h fan)
  before_low at q up before entries chosen h (inr none) fan =
      let empty : Fan Below at [] (Some chosen.0) entries = subst (λ (l : List Entry). Fan Below at l (Some chosen.0) entries) none.1 fan in
      ap (list_all (λ (e : Entry). nat_lt e.0 q)) empty

  -- what comes next, behind the child or before it
  next_of : (at q : ℕ) (with up : Bool) (before after : List Entry) (chosen : Entry) (high : Option ℕ) (e1 first e3 : List Entry) (sibling : Option ℕ)
      → Fan Below at before (Some chosen.0) e1 → Fan Below at after high e3
      → list_all (λ (e : Entry). nat_lt e.0 q) e1 ≡ true → list_all (λ (e : Entry). nat_lt q e.0) e3 ≡ true
      → IsSibling up before after sibling → GoesOn Below with up q (e1 ++ (first ++ e3)) first sibling
  next_of at q with true before after chosen high e1 first e3 None f1 f3 h1 h3 is =
      let empty : Fan Below at [] high e3 = subst (λ (l : List Entry). Fan Below at l high e3) is f3 in
      near_up with q e1 first e3 (none_up with q e1 h1)
      ∙ ap (λ (l : List Entry). option_or (nearest with true first q) (nearest with true l q)) empty
      ∙ or_nothing (nearest with true first q)
  next_of at q with false before after chosen high e1 first e3 None f1 f3 h1 h3 is =
      let empty : Fan Below at [] (Some chosen.0) e1 = subst (λ (l : List Entry). Fan Below at l (Some chosen.0) e1) is f1 in
      near_down with q e1 first e3 (none_down with q e3 h3)
      ∙ ap (λ (l : List Entry). option_or (nearest with false first q) (nearest with false l q)) empty
      ∙ or_nothing (nearest with false first q)
  next_of at q with true before after chosen high e1 first e3 (Some s) f1 f3 h1 h3 is =
      let fan : Fan Below at (is.0 ∷ is.1) high e3 = subst (λ (l : List Entry). Fan Below at l high e3) is.2 f3 in
      let here : list_all (λ (e : Entry). nat_lt q e.0) fan.1 ≡ true = all_front (λ (e : Entry). nat_lt q e.0) fan.1 fan.2 (ap (list_all (λ (e : Entry). nat_lt q e.0)) (sym fan.3) ∙ h3) in (
        is.0.0,
        border is.1 high,
        fan.1,
        subst (λ (n : ℕ). Below n is.0.0 (border is.1 high) fan.1) is.3 fan.4,
        near_up with q e1 first e3 (none_up with q e1 h1)
            ∙ ap (λ (o : Option Entry). option_or (nearest with true first q) o)
            (ap (λ (l : List Entry). nearest with true l q) fan.3 ∙ first_up with q fan.1 fan.2 (sound.some is.0.1 is.0.0 (border is.1 high) fan.1 fan.4) (sound.fit is.0.1 is.0.0 (border is.1 high) fan.1 fan.4) (all_up with q fan.1 here)),
      )
  next_of at q with false before after chosen high e1 first e3 (Some s) f1 f3 h1 h3 is =
      let whole : Fan Below at (is.0 ++ is.1 ∷ []) (Some chosen.0) e1 = subst (λ (l : List Entry). Fan Below at l (Some chosen.0) e1) is.2 f1 in
      let parts = fan_split Below at is.0 (is.1 ∷ []) (Some chosen.0) e1 whole in
      let fan : Fan Below at (is.1 ∷ []) (Some chosen.0) parts.1 = parts.4 in
      let last : parts.1 ≡ fan.1 = fan.3 ∙ ap (λ (l : List Entry). fan.1 ++ l) fan.5 ∙ append-nil fan.1 in
      let together : e1 ≡ parts.0 ++ fan.1 = parts.2 ∙ ap (λ (l : List Entry). parts.0 ++ l) last in
      let here : list_all (λ (e : Entry). nat_lt e.0 q) fan.1 ≡ true = all_back (λ (e : Entry). nat_lt e.0 q) parts.0 fan.1 (ap (list_all (λ (e : Entry). nat_lt e.0 q)) (sym together) ∙ h1) in (
        is.1.0,
        Some chosen.0,
        fan.1,
        subst (λ (n : ℕ). Below n is.1.0 (Some chosen.0) fan.1) is.3 fan.4,
        near_down with q e1 first e3 (none_down with q e3 h3)
            ∙ ap (λ (o : Option Entry). option_or (nearest with false first q) o)
            (ap (λ (l : List Entry). nearest with false l q) together
            ∙ first_down with q parts.0 fan.1 (sound.some is.1.1 is.1.0 (Some chosen.0) fan.1 fan.4) (sound.fit is.1.1 is.1.0 (Some chosen.0) fan.1 fan.4) (all_down with q fan.1 here)),
      )

  pub step_down : (at low q : ℕ) (high : Option ℕ) (with up : Bool) (children entries : List Entry) (child : ℕ) (sibling : Option ℕ)
      → IsChoice up q children child sibling → rises children ≡ true → list_all (lies_in low high) children ≡ true → Fan Below at children high entries
      → Step Below with up q entries child sibling
  step_down at low q high with up children entries child sibling c rise all fan =
      let whole : Fan Below at (c.before ++ c.chosen ∷ c.after) high entries = subst (λ (l : List Entry). Fan Below at l high entries) c.split fan in
      let parts = fan_split Below at c.before (c.chosen ∷ c.after) high entries whole in
      let mine : Fan Below at (c.chosen ∷ c.after) high parts.1 = parts.4 in
      let together : entries ≡ parts.0 ++ (mine.1 ++ mine.2) = parts.2 ∙ ap (λ (l : List Entry). parts.0 ++ l) mine.3 in
      let rise' : rises (c.before ++ c.chosen ∷ c.after) ≡ true = ap rises (sym c.split) ∙ rise in
      let all' : list_all (lies_in low high) (c.before ++ c.chosen ∷ c.after) ≡ true = ap (list_all (lies_in low high)) (sym c.split) ∙ all in
      let after_in : list_all (lies_in low high) c.after ≡ true = (and_parts (lies_in low high c.chosen) (list_all (lies_in low high) c.after) (all_back (lies_in low high) c.before (c.chosen ∷ c.after) all')).1 in
      let h1 = before_low at q up c.before parts.0 c.chosen (rise_before c.before c.after c.chosen rise') c.upto parts.3 in
      let h3 = fan_above at low q high c.after mine.2 after_in c.past mine.5 in
      record {
        low = c.chosen.0;
        high = border c.after high;
        first = mine.1;
        stands = subst (λ (n : ℕ). Below n c.chosen.0 (border c.after high) mine.1) c.child_is mine.4;
        value = ap (λ (l : List Entry). value_of l q) together ∙ value_within q parts.0 mine.1 mine.2 (differs_below q parts.0 h1) (differs_above q mine.2 h3);
        near = subst (λ (l : List Entry). GoesOn Below with up q l mine.1 sibling) (sym together)
            (next_of at q with up c.before c.after c.chosen high parts.0 mine.1 mine.2 sibling parts.3 mine.5 h1 h3 c.sibling_is);
      }
