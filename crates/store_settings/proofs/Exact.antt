-- Words are read exactly where they are in the profile.
use Rattle.std.proofs.Common.{◌≡◌, ℕ, ◌+◌, ◌^◌, ◌<◌, true, false, cond, Bool, not, ◌&&◌, List, [], ◌∷◌, ◌++◌, nat_eq, nat_le, refl, sym, ap, subst, ◌∙◌, Option, Some, None, ◌⊎◌, inl, inr, codes, arith}
use Rattle.std.specs.Prelude.{option_and_then, option_map, is_some}
use Rattle.std.specs.List.{list_all}
use Rattle.std.specs.Cmp.Lexicographic.{pointwise}
use Rattle.std.specs.Fmt.{decimal}
use Rattle.std.proofs.lemmas.Bool.{and_parts, and_from, leb-true}
use Rattle.std.proofs.lemmas.List.{append-nil}
use Rattle.store_settings.specs.Numbers.{is_max, is_within, within, max_of, number_of}
use Rattle.store_settings.specs.Profile.{Text, Part, operand, memory, max_joined, max_apart, all_spelled, ending, behind, operands, memories, maxima, is_part, is_operand, is_plain, takes, Request, listed, memory_count, AskFor, command_word}
use Rattle.store_settings.specs.Reading.{State, Look, look_of, step, step_in, mixed, read, end, ended, with_dir, with_max, with_memory, takes_max, given_if, start, read_all, command_of}
use Rattle.store_settings.specs.Reading as looks
use Rattle.store_settings.specs.declared.words.Command.{Command}
use Rattle.store_settings.specs.declared.words.Command.TheVariants.{Play, New}
use Rattle.store_settings.specs.declared.words.Choice.TheVariants.{Memory, Max}
use Rattle.store_settings.specs.declared.reader.Mode.{Mode}
use Rattle.store_settings.specs.declared.reader.Mode.TheVariants.{Mixed, Value, Operands}
use Rattle.store_settings.proofs.Decimals.{number_takes, number_again}
use Rattle.store_settings.proofs.Texts.{same_list, guard_some, bind_some}
use Rattle.store_settings.proofs.Looks.{Is, look_is, dashes_look, memory_look, max_look, joined_look, plain_look}

-- ---- numbers

pub max_takes : (w : Text) (n : ℕ) → max_of w ≡ Some n → (w ≡ decimal n) × (is_max n ≡ true)
max_takes w n e =
    let b = bind_some (number_of w) (within 16 (2 ^ 32)) n e in
    let g = guard_some (is_within 16 (2 ^ 32) b.0) b.0 n b.2 in
    subst (λ (m : ℕ). (w ≡ decimal m) × (is_max m ≡ true)) g.1 ((number_takes w b.0 b.1).0, g.0)

max_fits : (n : ℕ) → is_max n ≡ true → n < 2 ^ 64
max_fits n e = let p = and_parts (nat_le 16 n) (nat_le n (2 ^ 32)) e in let most = leb-true n (2 ^ 32) p.1 in omega (arith, most)

pub max_again : (n : ℕ) → is_max n ≡ true → max_of (decimal n) ≡ Some n
max_again n e = rw (number_again (decimal n) n (max_fits n e) refl, e) refl

-- ---- a state, field by field

abbrev pub at : Command → Mode → Bool → Option Text → Option ℕ → State
at c m b d x = record { command = c; mode = m; in_memory = b; dir = d; max = x }

abbrev pub counted : Bool → ℕ
counted b = cond b 1 0

abbrev pub asked : Command → Option Text → Option ℕ → Request
asked c d x = record { command = c; dir = d; max = x }

same_request : (r : Request) (c : Command) (d : Option Text) (x : Option ℕ) → c ≡ r.command → d ≡ r.dir → x ≡ r.max → asked c d x ≡ r
same_request r c d x e f g = rw (e, f, g) refl

listed_same : {A : Type 0} (a b : Option A) → listed a ≡ listed b → a ≡ b
listed_same None None e = refl
listed_same None (Some y) e = absurd cc
listed_same (Some x) None e = absurd cc
listed_same (Some x) (Some y) e = cc

not_two : {A : Type 0} (x y : A) (xs : List A) (o : Option A) → x ∷ y ∷ xs ≡ listed o → ⊥
not_two x y xs None e = cc
not_two x y xs (Some z) e = cc

none_counts : (w : Text) (ws : List Text) (o : Option Text) → w ∷ ws ≡ listed o → memory_count o ≡ 0
none_counts w ws None e = absurd cc
none_counts w ws (Some d) e = refl

at_most_one : (o : Option Text) (n : ℕ) → (1 + (n + 1) ≡ memory_count o) → ⊥
at_most_one None n e = omega (arith, e)
at_most_one (Some d) n e = omega (arith, e)

-- ---- what the words that are left may be

-- behind `--`
record Behind (c : Command) (b : Bool) (d : Option Text) (x : Option ℕ) (ws : List Text) (r : Request) : Type 0 where
  pub words : list_all is_operand ws ≡ true
  pub place : listed d ++ ws ≡ listed r.dir
  pub once : counted b ≡ memory_count r.dir
  pub most : listed x ≡ listed r.max
  pub command : c ≡ r.command

-- before it
record Facts (c : Command) (b : Bool) (d : Option Text) (x : Option ℕ) (parts : List Part) (last : Option (List Text)) (r : Request) : Type 0 where
  pub parts_are : list_all (is_part c) parts ≡ true
  pub last_are : list_all is_operand (behind last) ≡ true
  pub place : listed d ++ (operands parts ++ behind last) ≡ listed r.dir
  pub once : counted b + memories parts ≡ memory_count r.dir
  pub most : listed x ++ maxima parts ≡ listed r.max
  pub command : c ≡ r.command

record Rest (c : Command) (b : Bool) (d : Option Text) (x : Option ℕ) (ws : List Text) (r : Request) : Type 0 where
  pub parts : List Part
  pub last : Option (List Text)
  pub words : ws ≡ all_spelled parts ++ ending last
  pub facts : Facts c b d x parts last r

-- ---- words in the profile are read

plain_end : (c : Command) (b : Bool) (d : Option Text) (x : Option ℕ) (r : Request) → listed d ≡ listed r.dir → counted b ≡ memory_count r.dir → listed x ≡ listed r.max → c ≡ r.command
    → end (at c Mixed b d x) ≡ Some r
plain_end c true d x r place once most same = by_dir r.dir refl
  where
    by_dir : (o : Option Text) → r.dir ≡ o → Some (asked c None x) ≡ Some r
    by_dir None e = ap (λ q. Some q) (same_request r c None x same (sym e) (listed_same x r.max most))
    by_dir (Some y) e = absurd (let bad : 1 ≡ 0 = once ∙ ap memory_count e in omega (arith, bad))
plain_end c false None x r place once most same = absurd (let none : r.dir ≡ None = sym (listed_same None r.dir place) in let bad : 0 ≡ 1 = once ∙ ap memory_count none in omega (arith, bad))
plain_end c false (Some y) x r place once most same = ap (λ q. Some q) (same_request r c (Some y) x same (listed_same (Some y) r.dir place) (listed_same x r.max most))

-- one word further
go : (s t : State) (w : Text) (ws : List Text) (r : Option Request) → step s w ≡ Some t → read t ws ≡ r → read s (w ∷ ws) ≡ r
unfolding read
go s t w ws r e rec = ap (option_and_then (λ u. read u ws)) e ∙ rec

operands_step : (c : Command) (x : Option ℕ) (w : Text) → is_operand w ≡ true → step (at c Operands false None x) w ≡ Some (at c Operands false (Some w) x)
operands_step c x w e = rw e refl

dashes_step : (c : Command) (b : Bool) (d : Option Text) (x : Option ℕ) → step (at c Mixed b d x) (codes "--") ≡ Some (at c Operands b d x)
dashes_step c b d x = ap (λ l. mixed l (at c Mixed b d x) (codes "--")) dashes_look

plain_step : (c : Command) (x : Option ℕ) (w : Text) → is_plain w ≡ true → step (at c Mixed false None x) w ≡ Some (at c Mixed false (Some w) x)
plain_step c x w e = ap (λ l. mixed l (at c Mixed false None x) w) (plain_look w e)

memory_step : (c : Command) (x : Option ℕ) → takes c Memory ≡ true → step (at c Mixed false None x) (codes "--memory") ≡ Some (at c Mixed true None x)
memory_step c x e = ap (λ l. mixed l (at c Mixed false None x) (codes "--memory")) memory_look ∙ rw e refl

name_step : (c : Command) (b : Bool) (d : Option Text) → takes c Max ≡ true → step (at c Mixed b d None) (codes "--max") ≡ Some (at c Value b d None)
name_step c b d e = ap (λ l. mixed l (at c Mixed b d None) (codes "--max")) max_look ∙ rw e refl

value_step : (c : Command) (b : Bool) (d : Option Text) (n : ℕ) → is_max n ≡ true → step (at c Value b d None) (decimal n) ≡ Some (at c Mixed b d (Some n))
value_step c b d n e = ap (option_map (λ k. at c Mixed b d (Some k))) (max_again n e)

joined_step : (c : Command) (b : Bool) (d : Option Text) (n : ℕ) → takes c Max ≡ true → is_max n ≡ true → step (at c Mixed b d None) (codes "--max=" ++ decimal n) ≡ Some (at c Mixed b d (Some n))
joined_step c b d n t e = ap (λ l. mixed l (at c Mixed b d None) (codes "--max=" ++ decimal n)) (joined_look (decimal n)) ∙ rw t (ap (option_map (λ k. at c Mixed b d (Some k))) (max_again n e))

complete_behind : (ws : List Text) (c : Command) (b : Bool) (d : Option Text) (x : Option ℕ) (r : Request) → Behind c b d x ws r → read (at c Operands b d x) ws ≡ Some r
unfolding read
complete_behind [] c b d x r h = plain_end c b d x r (sym (append-nil (listed d)) ∙ h.place) h.once h.most h.command
complete_behind (w ∷ ws) c b (Some y) x r h = absurd (not_two y w ws r.dir h.place)
complete_behind (w ∷ ws) c true None x r h = absurd (omega (arith, h.once, none_counts w ws r.dir h.place))
complete_behind (w ∷ ws) c false None x r h =
    let p = and_parts (is_operand w) (list_all is_operand ws) h.words in
    ap (option_and_then (λ u. read u ws)) (operands_step c x w p.0)
    ∙ complete_behind ws c false (Some w) x r (record { words = p.1; place = h.place; once = h.once; most = h.most; command = h.command })

complete : (parts : List Part) (last : Option (List Text)) (c : Command) (b : Bool) (d : Option Text) (x : Option ℕ) (r : Request) → Facts c b d x parts last r
    → read (at c Mixed b d x) (all_spelled parts ++ ending last) ≡ Some r
unfolding read
complete [] None c b d x r f =
    let once : counted b ≡ memory_count r.dir = omega (arith, f.once) in
    plain_end c b d x r (sym (append-nil (listed d)) ∙ f.place) once (sym (append-nil (listed x)) ∙ f.most) f.command
complete [] (Some ws) c b d x r f =
    let once : counted b ≡ memory_count r.dir = omega (arith, f.once) in
    go (at c Mixed b d x) (at c Operands b d x) (codes "--") ws (Some r) (dashes_step c b d x)
    (complete_behind ws c b d x r (record { words = f.last_are; place = f.place; once = once; most = sym (append-nil (listed x)) ∙ f.most; command = f.command }))
complete (operand w ∷ ps) last c b (Some y) x r f = absurd (not_two y w (operands ps ++ behind last) r.dir f.place)
complete (operand w ∷ ps) last c true None x r f = absurd (omega (arith, f.once, none_counts w (operands ps ++ behind last) r.dir f.place))
complete (operand w ∷ ps) last c false None x r f =
    let p = and_parts (is_plain w) (list_all (is_part c) ps) f.parts_are in
    go (at c Mixed false None x) (at c Mixed false (Some w) x) w (all_spelled ps ++ ending last) (Some r) (plain_step c x w p.0)
    (complete ps last c false (Some w) x r (record { parts_are = p.1; last_are = f.last_are; place = f.place; once = f.once; most = f.most; command = f.command }))
complete (memory ∷ ps) last c true d x r f = absurd (at_most_one r.dir (memories ps) f.once)
complete (memory ∷ ps) last c false (Some y) x r f = absurd (omega (arith, f.once, none_counts y (operands ps ++ behind last) r.dir f.place))
complete (memory ∷ ps) last c false None x r f =
    let p = and_parts (takes c Memory) (list_all (is_part c) ps) f.parts_are in
    let once : counted true + memories ps ≡ memory_count r.dir = omega (arith, f.once) in
    go (at c Mixed false None x) (at c Mixed true None x) (codes "--memory") (all_spelled ps ++ ending last) (Some r) (memory_step c x p.0)
    (complete ps last c true None x r (record { parts_are = p.1; last_are = f.last_are; place = f.place; once = once; most = f.most; command = f.command }))
complete (max_joined n ∷ ps) last c b d (Some y) r f = absurd (not_two y n (maxima ps) r.max f.most)
complete (max_joined n ∷ ps) last c b d None r f =
    let p = and_parts (takes c Max && is_max n) (list_all (is_part c) ps) f.parts_are in
    let q = and_parts (takes c Max) (is_max n) p.0 in
    go (at c Mixed b d None) (at c Mixed b d (Some n)) (codes "--max=" ++ decimal n) (all_spelled ps ++ ending last) (Some r) (joined_step c b d n q.0 q.1)
    (complete ps last c b d (Some n) r (record { parts_are = p.1; last_are = f.last_are; place = f.place; once = f.once; most = f.most; command = f.command }))
complete (max_apart n ∷ ps) last c b d (Some y) r f = absurd (not_two y n (maxima ps) r.max f.most)
complete (max_apart n ∷ ps) last c b d None r f =
    let p = and_parts (takes c Max && is_max n) (list_all (is_part c) ps) f.parts_are in
    let q = and_parts (takes c Max) (is_max n) p.0 in
    go (at c Mixed b d None) (at c Value b d None) (codes "--max") (decimal n ∷ (all_spelled ps ++ ending last)) (Some r) (name_step c b d q.0)
    (go (at c Value b d None) (at c Mixed b d (Some n)) (decimal n) (all_spelled ps ++ ending last) (Some r) (value_step c b d n q.1)
    (complete ps last c b d (Some n) r (record { parts_are = p.1; last_are = f.last_are; place = f.place; once = f.once; most = f.most; command = f.command })))

-- the words that are left, in each mode
abbrev Reach : Mode → Command → Bool → Option Text → Option ℕ → List Text → Request → Type 0
Reach Mixed c b d x ws r = Rest c b d x ws r
Reach Value c b d x ws r = (n : ℕ) × (vs : List Text) × (ws ≡ decimal n ∷ vs) × (is_max n ≡ true) × Rest c b d (Some n) vs r
Reach Operands c b d x ws r = Behind c b d x ws r

-- no two places
abbrev Valid : Bool → Option Text → Type 0
Valid b d = b ≡ true → d ≡ None

not_true : (b : Bool) → not b ≡ true → b ≡ false
not_true true e = absurd cc
not_true false e = refl

not_some : {A : Type 0} (o : Option A) → not (is_some o) ≡ true → o ≡ None
not_some None e = refl
not_some (Some x) e = absurd cc

given_some : (t : Bool) (s : State) (ws : List Text) (r : Request) → option_and_then (λ u. read u ws) (given_if t s) ≡ Some r → (t ≡ true) × (read s ws ≡ Some r)
given_some true s ws r e = (refl, e)
given_some false s ws r e = absurd cc

cond_some : {A : Type 0} (t : Bool) (o : Option State) (f : State → Option A) (r : A) → option_and_then f (cond t o None) ≡ Some r → (t ≡ true) × (option_and_then f o ≡ Some r)
cond_some true o f r e = (refl, e)
cond_some false o f r e = absurd cc

max_given : (o : Option ℕ) (f : ℕ → State) (ws : List Text) (r : Request) → option_and_then (λ u. read u ws) (option_map f o) ≡ Some r → (n : ℕ) × (o ≡ Some n) × (read (f n) ws ≡ Some r)
max_given None f ws r e = absurd cc
max_given (Some n) f ws r e = (n, refl, e)

place_free : (b : Bool) (d : Option Text) → (not b && not (is_some d)) ≡ true → (b ≡ false) × (d ≡ None)
place_free b d e = let p = and_parts (not b) (not (is_some d)) e in (not_true b p.0, not_some d p.1)

some_parts : (r : Request) (c : Command) (d : Option Text) (x : Option ℕ) → Some (asked c d x) ≡ Some r → (c ≡ r.command) × (d ≡ r.dir) × (x ≡ r.max)
some_parts r c d x e = let same : asked c d x ≡ r = cc in (ap (λ q. q.command) same, ap (λ q. q.dir) same, ap (λ q. q.max) same)

end_sound : (c : Command) (b : Bool) (d : Option Text) (x : Option ℕ) (r : Request) → Valid b d → end (at c Mixed b d x) ≡ Some r → Behind c b d x [] r
end_sound c true None x r v e = let p = some_parts r c None x e in
    record { words = refl; place = ap listed p.1; once = ap memory_count p.1; most = ap listed p.2; command = p.0 }
end_sound c true (Some y) x r v e = absurd (let bad = v refl in cc)
end_sound c false None x r v e = absurd cc
end_sound c false (Some y) x r v e = let p = some_parts r c (Some y) x e in
    record { words = refl; place = ap listed p.1; once = ap memory_count p.1; most = ap listed p.2; command = p.0 }

-- no part is left
rest_end : (c : Command) (b : Bool) (d : Option Text) (x : Option ℕ) (r : Request) → Behind c b d x [] r → Rest c b d x [] r
rest_end c b d x r h =
    let once : counted b + 0 ≡ memory_count r.dir = omega (arith, h.once) in
    record { parts = []; last = None; words = refl; facts = record { parts_are = refl; last_are = refl; place = h.place; once = once; most = append-nil (listed x) ∙ h.most; command = h.command } }

abbrev Sound : List Text → Command → Type 0
Sound ws c = (m : Mode) (b : Bool) (d : Option Text) (x : Option ℕ) (r : Request) → Valid b d → read (at c m b d x) ws ≡ Some r → Reach m c b d x ws r

-- a word of each look, and the rest
by_look : (ws : List Text) (c : Command) → Sound ws c → (l : Look) (w : Text) → Is l w → (b : Bool) (d : Option Text) (x : Option ℕ) (r : Request) → Valid b d
    → option_and_then (λ u. read u ws) (mixed l (at c Mixed b d x) w) ≡ Some r → Rest c b d x (w ∷ ws) r
by_look ws c ih looks.dashes w is b d x r v e =
    let h = ih Operands b d x r v e in
    let once : counted b + 0 ≡ memory_count r.dir = omega (arith, h.once) in
    record {
      parts = [];
      last = Some ws;
      words = ap (λ u. u ∷ ws) is;
      facts = record { parts_are = refl; last_are = h.words; place = h.place; once = once; most = append-nil (listed x) ∙ h.most; command = h.command };
    }
by_look ws c ih looks.memory w is b d x r v e =
    let g = given_some (takes c Memory && not b && not (is_some d)) (at c Mixed true d x) ws r e in
    let t = and_parts (takes c Memory && not b) (not (is_some d)) g.0 in
    let q = and_parts (takes c Memory) (not b) t.0 in
    let none = not_some d t.1 in
    let zero : counted b ≡ 0 = ap counted (not_true b q.1) in
    let h = ih Mixed true d x r (λ _. none) g.1 in
    let once : counted b + (memories h.parts + 1) ≡ memory_count r.dir = omega (arith, zero, h.facts.once) in
    record {
      parts = memory ∷ h.parts;
      last = h.last;
      words = ap (λ u. u ∷ ws) is ∙ ap (λ us. codes "--memory" ∷ us) h.words;
      facts = record { parts_are = and_from (takes c Memory) (list_all (is_part c) h.parts) q.0 h.facts.parts_are; last_are = h.facts.last_are; place = h.facts.place; once = once; most = h.facts.most; command = h.facts.command };
    }
by_look ws c ih looks.max w is b d x r v e =
    let g = given_some (takes_max (at c Mixed b d x)) (at c Value b d x) ws r e in
    let q = and_parts (takes c Max) (not (is_some x)) g.0 in
    let none = not_some x q.1 in
    let h = ih Value b d x r v g.1 in
    let rest = h.4 in
    record {
      parts = max_apart h.0 ∷ rest.parts;
      last = rest.last;
      words = ap (λ u. u ∷ ws) is ∙ ap (λ us. codes "--max" ∷ us) (h.2 ∙ ap (λ us. decimal h.0 ∷ us) rest.words);
      facts = record {
        parts_are = and_from (takes c Max && is_max h.0) (list_all (is_part c) rest.parts) (and_from (takes c Max) (is_max h.0) q.0 h.3) rest.facts.parts_are;
        last_are = rest.facts.last_are;
        place = rest.facts.place;
        once = rest.facts.once;
        most = ap (λ o. listed o ++ (h.0 ∷ maxima rest.parts)) none ∙ rest.facts.most;
        command = rest.facts.command;
      };
    }
by_look ws c ih (looks.max_is value) w is b d x r v e =
    let t = cond_some (takes_max (at c Mixed b d x)) (with_max (at c Mixed b d x) value) (λ u. read u ws) r e in
    let q = and_parts (takes c Max) (not (is_some x)) t.0 in
    let none = not_some x q.1 in
    let g = max_given (max_of value) (λ n. at c Mixed b d (Some n)) ws r t.1 in
    let k = max_takes value g.0 g.1 in
    let rest = ih Mixed b d (Some g.0) r v g.2 in
    record {
      parts = max_joined g.0 ∷ rest.parts;
      last = rest.last;
      words = ap (λ u. u ∷ ws) (is ∙ ap (λ u. codes "--max=" ++ u) k.0) ∙ ap (λ us. (codes "--max=" ++ decimal g.0) ∷ us) rest.words;
      facts = record {
        parts_are = and_from (takes c Max && is_max g.0) (list_all (is_part c) rest.parts) (and_from (takes c Max) (is_max g.0) q.0 k.1) rest.facts.parts_are;
        last_are = rest.facts.last_are;
        place = rest.facts.place;
        once = rest.facts.once;
        most = ap (λ o. listed o ++ (g.0 ∷ maxima rest.parts)) none ∙ rest.facts.most;
        command = rest.facts.command;
      };
    }
by_look ws c ih looks.stray w is b d x r v e = absurd cc
by_look ws c ih looks.plain w is b d x r v e =
    let g = given_some (not b && not (is_some d)) (at c Mixed b (Some w) x) ws r e in
    let free = place_free b d g.0 in
    let rest = ih Mixed b (Some w) x r (λ t. absurd (let bad = sym t ∙ free.0 in cc)) g.1 in
    record {
      parts = operand w ∷ rest.parts;
      last = rest.last;
      words = ap (λ us. w ∷ us) rest.words;
      facts = record {
        parts_are = and_from (is_plain w) (list_all (is_part c) rest.parts) is rest.facts.parts_are;
        last_are = rest.facts.last_are;
        place = ap (λ o. listed o ++ (w ∷ (operands rest.parts ++ behind rest.last))) free.1 ∙ rest.facts.place;
        once = rest.facts.once;
        most = rest.facts.most;
        command = rest.facts.command;
      };
    }

by_value : (ws : List Text) (c : Command) → Sound ws c → (w : Text) (b : Bool) (d : Option Text) (x : Option ℕ) (r : Request) → Valid b d
    → option_and_then (λ u. read u ws) (with_max (at c Value b d x) w) ≡ Some r → Reach Value c b d x (w ∷ ws) r
by_value ws c ih w b d x r v e =
    let g = max_given (max_of w) (λ n. at c Mixed b d (Some n)) ws r e in
    let k = max_takes w g.0 g.1 in
    (g.0, ws, ap (λ u. u ∷ ws) k.0, k.1, ih Mixed b d (Some g.0) r v g.2)

by_operand : (ws : List Text) (c : Command) → Sound ws c → (w : Text) (b : Bool) (d : Option Text) (x : Option ℕ) (r : Request)
    → option_and_then (λ u. read u ws) (cond (is_operand w) (with_dir (at c Operands b d x) w) None) ≡ Some r → Behind c b d x (w ∷ ws) r
by_operand ws c ih w b d x r e =
    let t = cond_some (is_operand w) (with_dir (at c Operands b d x) w) (λ u. read u ws) r e in
    let g = given_some (not b && not (is_some d)) (at c Operands b (Some w) x) ws r t.1 in
    let free = place_free b d g.0 in
    let h = ih Operands b (Some w) x r (λ y. absurd (let bad = sym y ∙ free.0 in cc)) g.1 in
    record { words = and_from (is_operand w) (list_all is_operand ws) t.0 h.words; place = ap (λ o. listed o ++ (w ∷ ws)) free.1 ∙ h.place; once = h.once; most = h.most; command = h.command }

sound : (ws : List Text) (c : Command) → Sound ws c
unfolding read
sound [] c Mixed b d x r v e = rest_end c b d x r (end_sound c b d x r v e)
sound [] c Value b d x r v e = absurd cc
sound [] c Operands b d x r v e = end_sound c b d x r v e
sound (w ∷ ws) c Mixed b d x r v e = by_look ws c (sound ws c) (look_of w) w (look_is w) b d x r v e
sound (w ∷ ws) c Value b d x r v e = by_value ws c (sound ws c) w b d x r v e
sound (w ∷ ws) c Operands b d x r v e = by_operand ws c (sound ws c) w b d x r e

-- ---- all words

command_again : (c : Command) → command_of (command_word c) ≡ Some c
command_again Play = refl
command_again New = refl

command_choice : (t : Bool) (a c : Command) (o : Option Command) → cond t (Some a) o ≡ Some c → ((t ≡ true) × (a ≡ c)) ⊎ (o ≡ Some c)
command_choice true a c o e = inl (refl, cc)
command_choice false a c o e = inr e

command_is : (w : Text) (c : Command) → command_of w ≡ Some c → w ≡ command_word c
command_is w c e =
    elim (command_choice (pointwise nat_eq w (codes "play")) Play c _ e) [
      | inl p ↦ same_list w (codes "play") p.0 ∙ ap command_word p.1
      | inr later ↦ elim (command_choice (pointwise nat_eq w (codes "new")) New c None later) [
        | inl p ↦ same_list w (codes "new") p.0 ∙ ap command_word p.1
        | inr none ↦ absurd cc
      ]
    ]

pub read_if : (ws : List Text) (r : Request) → AskFor ws r → read_all ws ≡ Some r
read_if ws r a =
    let once : counted false + memories a.parts ≡ memory_count r.dir = omega (arith, a.memory_once) in
    ap read_all a.words_are ∙ (ap (option_and_then (λ c. read (start c) (all_spelled a.parts ++ ending a.last))) (command_again r.command)
    ∙ complete a.parts a.last r.command false None None r (record { parts_are = a.parts_are; last_are = a.last_are; place = a.place; once = once; most = a.max_once; command = refl }))

pub read_only_if : (ws : List Text) (r : Request) → read_all ws ≡ Some r → AskFor ws r
read_only_if [] r e = absurd cc
read_only_if (w ∷ ws) r e =
    let b = bind_some (command_of w) (λ c. read (start c) ws) r e in
    let h = sound ws b.0 Mixed false None None r (λ bad. absurd cc) b.2 in
    let same = h.facts.command in
    let once : memories h.parts ≡ memory_count r.dir = omega (arith, h.facts.once) in
    record {
      parts = h.parts;
      last = h.last;
      words_are = ap (λ u. u ∷ ws) (command_is w b.0 b.1 ∙ ap command_word same) ∙ ap (λ us. command_word r.command ∷ us) h.words;
      parts_are = ap (λ c. list_all (is_part c) h.parts) (sym same) ∙ h.facts.parts_are;
      last_are = h.facts.last_are;
      place = h.facts.place;
      memory_once = once;
      max_once = h.facts.most;
    }
