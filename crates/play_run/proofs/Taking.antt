-- What the next byte of a script leaves of what was taken.
use Rattle.std.proofs.Common.{◌≡◌, ◌≢◌, ℕ, ◌+◌, ◌<◌, Bool, List, [], ◌∷◌, ◌++◌, length, take, drop, get_or, suc, sym, ap, subst, ◌∙◌, append_assoc, append-nil, drop-cons, arith, inl, inr}
use Rattle.std.specs.Prelude.{IsTrue, ◌⊎◌}
use Rattle.std.proofs.lemmas.List.{take-append-drop}
use Rattle.std.proofs.Math.Seq.{take-suc, take-length}
use Rattle.forest_model.specs.Blocks.{File}
use Rattle.play_run.specs.Play.{ComesTo}
use Rattle.play_run.specs.Script.{IsText, HasSaid, HasSaidPart, RunsPrefix, ended}
use Rattle.play_run.specs.Seen.{Seen}
use Rattle.play_run.specs.Playing.{Position}
use Rattle.play_run.specs.Progress.{HasRun, HasTaken, HasHeard, HasHeardPart, HasBroken, Stops, StopsText, StopsByHost, RunsSomeWhole, RunsWholePart}
use Rattle.play_run.specs.declared.player.Ended.{Ended}
use Rattle.play_run.specs.declared.player.Ended.TheVariants.{BadLine, NoMemory, HostFault, SourceFault, AtEnd, Damaged}
use Rattle.play_run.proofs.Runs.{ended-push, heard_run, comes_as, comes_same, breaks_as}

-- what was taken of a host that tells: equal is the same
pub taken_same : (tells : Bool) (base heard heard' : Seen) (taken : List ℕ) (m : Position) (line_open : List ℕ) (count : ℕ) → HasTaken tells base heard taken m line_open count → (IsTrue tells → heard' ≡ heard)
    → HasTaken tells base heard' taken m line_open count
taken_same tells base heard heard' taken m line_open count t same = record {
  texts = t.texts;
  cut = t.cut;
  no_newline = t.no_newline;
  run = record {
    lines = t.run.lines;
    told = t.run.told;
    taken = t.run.taken;
    counted = t.run.counted;
    first = t.run.first;
    last = t.run.last;
    after = t.run.after;
    run = t.run.run;
    here = t.run.here;
    said_is = λ told. ap (λ (s : Seen). s.said) (same told) ∙ t.run.said_is told;
    first_is = t.run.first_is;
    last_is = λ told. t.run.last_is told ∙ ap (λ (s : Seen). s.file) (sym (same told));
  };
}

-- the newline that ends the open line, once that line was run
pub ends_line : (tells : Bool) (base heard heard' : Seen) (taken line_open : List ℕ) (m m' : Position) (count after : ℕ) → HasTaken tells base heard taken m line_open count
    → ((texts : List (List ℕ)) → IsText line_open → HasRun tells base heard texts m count → HasRun tells base heard' (texts ++ line_open ∷ []) m' after)
    → HasTaken tells base heard' (taken ++ 10 ∷ []) m' [] after
ends_line tells base heard heard' taken line_open m m' count after t run = record {
  texts = t.texts ++ line_open ∷ [];
  cut = ap (λ xs. xs ++ 10 ∷ []) t.cut ∙ sym (ended-push t.texts line_open) ∙ sym (append-nil (ended (t.texts ++ line_open ∷ [])));
  no_newline = tt;
  run = run t.texts t.no_newline t.run;
}

IsText-push : (text : List ℕ) (byte : ℕ) → IsText text → byte ≢ 10 → IsText (text ++ byte ∷ [])
IsText-push [] byte h other = (other, tt)
IsText-push (b ∷ text) byte h other = (h.0, IsText-push text byte h.1 other)

-- another byte
pub goes_on_line : (tells : Bool) (base heard : Seen) (taken line_open : List ℕ) (m : Position) (count byte : ℕ) → HasTaken tells base heard taken m line_open count → byte ≢ 10
    → HasTaken tells base heard (taken ++ byte ∷ []) m (line_open ++ byte ∷ []) count
goes_on_line tells base heard taken line_open m count byte t other = record {
  texts = t.texts;
  cut = ap (λ xs. xs ++ byte ∷ []) t.cut ∙ append_assoc (ended t.texts) line_open (byte ∷ []);
  no_newline = IsText-push line_open byte t.no_newline other;
  run = t.run;
}

-- some of the lines were run
module _ (tells : Bool) (base heard : Seen) (taken line_open : List ℕ) (m : Position) (count : ℕ) (t : HasTaken tells base heard taken m line_open count) where
  pub some_run : (more : List ℕ) (first last : File) (said : List ℕ) → HasSaid first last t.texts said → RunsPrefix first last (taken ++ more) said
  some_run more first last said has = record { texts = t.texts; rest = line_open ++ more; cut = ap (λ xs. xs ++ more) t.cut ∙ append_assoc (ended t.texts) line_open more; said_all = has }

  -- the open line among them, once its newline came
  line_run : (n : ℕ) (first last : File) (said : List ℕ) → HasSaidPart n first last (t.texts ++ line_open ∷ []) said → RunsWholePart n first last (taken ++ 10 ∷ []) said
  line_run n first last said has = record {
    texts = t.texts ++ line_open ∷ [];
    rest = [];
    cut = ap (λ xs. xs ++ 10 ∷ []) t.cut ∙ sym (ended-push t.texts line_open) ∙ sym (append-nil (ended (t.texts ++ line_open ∷ [])));
    said_part = has;
  }

  heard_some : (more : List ℕ) → ComesTo tells base heard (λ first last. RunsPrefix first last (taken ++ more))
  heard_some more = comes_as tells base heard (λ first last. HasSaid first last t.texts) (λ first last. RunsPrefix first last (taken ++ more)) (some_run more) (heard_run tells base heard t.texts m count t.run)

  -- there is no memory for the next byte
  pub among : (more : List ℕ) → Stops NoMemory tells base heard (taken ++ more) count
  among more = comes_as tells base heard (λ first last. RunsPrefix first last (taken ++ more)) (RunsSomeWhole (taken ++ more)) (λ first last said p. inl p) (heard_some more)

  -- a newline behind a text that stops the run
  pub stops_line : (why : Ended) (heard' : Seen) (after : ℕ) → StopsText why tells line_open m count heard heard' → after ≡ count → Stops why tells base heard' (taken ++ 10 ∷ []) after
  stops_line BadLine heard' after stop same = record {
    texts = t.texts;
    bad = line_open;
    more = [];
    cut = ap (λ xs. xs ++ 10 ∷ []) t.cut;
    no_newline = t.no_newline;
    no_line = stop.0;
    counted = t.run.counted ∙ sym same;
    run = comes_same tells base heard heard' (λ first last. HasSaid first last t.texts) (heard_run tells base heard t.texts m count t.run) stop.1;
  }
  stops_line NoMemory heard' after stop same = by (stop base t.texts t.no_newline t.run) where
    by : HasHeard tells base heard' t.texts ⊎ HasHeardPart 0 tells base heard' (t.texts ++ line_open ∷ []) → Stops NoMemory tells base heard' (taken ++ 10 ∷ []) after
    by (inl all) = comes_as tells base heard' (λ first last. HasSaid first last t.texts) (RunsSomeWhole (taken ++ 10 ∷ [])) (λ first last said has. inl (some_run (10 ∷ []) first last said has)) all
    by (inr part) = comes_as tells base heard' (λ first last. HasSaidPart 0 first last (t.texts ++ line_open ∷ [])) (RunsSomeWhole (taken ++ 10 ∷ [])) (λ first last said has. inr (line_run 0 first last said has)) part
  stops_line HostFault heard' after stop same = by (stop base t.texts t.no_newline t.run) where
    by : HasBroken tells base heard' t.texts ⊎ ((n : ℕ) × HasHeardPart n tells base heard' (t.texts ++ line_open ∷ [])) → StopsByHost tells base heard' (taken ++ 10 ∷ [])
    by (inl broken) = inr (breaks_as tells base heard' (λ first last. HasSaid first last t.texts) (λ first last. RunsPrefix first last (taken ++ 10 ∷ [])) (some_run (10 ∷ [])) broken)
    by (inr part) = inl (comes_as tells base heard' (λ first last. HasSaidPart part.0 first last (t.texts ++ line_open ∷ [])) (λ first last said. (n : ℕ) × RunsWholePart n first last (taken ++ 10 ∷ []) said)
        (λ first last said has. (part.0, line_run part.0 first last said has)) part.1)
  stops_line (Damaged file block) heard' after stop same =
      (comes_same tells base heard heard' (λ first last. RunsPrefix first last (taken ++ 10 ∷ [])) (heard_some (10 ∷ [])) (λ told. absurd (stop told)), stop)
  stops_line AtEnd heard' after stop same = absurd stop
  stops_line SourceFault heard' after stop same = absurd stop

-- further bytes behind what stops the run
prefix_more : (taken more : List ℕ) (first last : File) (said : List ℕ) → RunsPrefix first last taken said → RunsPrefix first last (taken ++ more) said
prefix_more taken more first last said s = record { texts = s.texts; rest = s.rest ++ more; cut = ap (λ xs. xs ++ more) s.cut ∙ append_assoc (ended s.texts) s.rest more; said_all = s.said_all }

part_more : (n : ℕ) (taken more : List ℕ) (first last : File) (said : List ℕ) → RunsWholePart n first last taken said → RunsWholePart n first last (taken ++ more) said
part_more n taken more first last said s = record { texts = s.texts; rest = s.rest ++ more; cut = ap (λ xs. xs ++ more) s.cut ∙ append_assoc (ended s.texts) s.rest more; said_part = s.said_part }

some_more : (taken more : List ℕ) (first last : File) (said : List ℕ) → RunsSomeWhole taken first last said → RunsSomeWhole (taken ++ more) first last said
some_more taken more first last said (inl s) = inl (prefix_more taken more first last said s)
some_more taken more first last said (inr s) = inr (part_more 0 taken more first last said s)

by_host_more : (tells : Bool) (base heard : Seen) (taken more : List ℕ) → StopsByHost tells base heard taken → StopsByHost tells base heard (taken ++ more)
by_host_more tells base heard taken more (inl s) =
    inl (comes_as tells base heard (λ first last said. (n : ℕ) × RunsWholePart n first last taken said) (λ first last said. (n : ℕ) × RunsWholePart n first last (taken ++ more) said)
    (λ first last said p. (p.0, part_more p.0 taken more first last said p.1)) s)
by_host_more tells base heard taken more (inr s) = inr (breaks_as tells base heard (λ first last. RunsPrefix first last taken) (λ first last. RunsPrefix first last (taken ++ more)) (prefix_more taken more) s)

pub stops_more : (why : Ended) (tells : Bool) (base heard : Seen) (taken more : List ℕ) (count : ℕ) → Stops why tells base heard taken count → Stops why tells base heard (taken ++ more) count
stops_more BadLine tells base heard taken more count s = record {
  texts = s.texts;
  bad = s.bad;
  more = s.more ++ more;
  cut = ap (λ xs. xs ++ more) s.cut ∙ append_assoc (ended s.texts ++ s.bad) (10 ∷ s.more) more;
  no_newline = s.no_newline;
  no_line = s.no_line;
  counted = s.counted;
  run = s.run;
}
stops_more NoMemory tells base heard taken more count s = comes_as tells base heard (RunsSomeWhole taken) (RunsSomeWhole (taken ++ more)) (some_more taken more) s
stops_more HostFault tells base heard taken more count s = by_host_more tells base heard taken more s
stops_more (Damaged file block) tells base heard taken more count s =
    (comes_as tells base heard (λ first last. RunsPrefix first last taken) (λ first last. RunsPrefix first last (taken ++ more)) (prefix_more taken more) s.0, s.1)
stops_more AtEnd tells base heard taken more count s = absurd s
stops_more SourceFault tells base heard taken more count s = absurd s

-- ---- the same by what the calls of a player say

pub ends_line_by : (tells : Bool) (base heard heard' : Seen) (taken line_open after_open : List ℕ) (m m' : Position) (count after byte : ℕ) → HasTaken tells base heard taken m line_open count
    → ((texts : List (List ℕ)) → IsText line_open → HasRun tells base heard texts m count → HasRun tells base heard' (texts ++ line_open ∷ []) m' after)
    → byte ≡ 10 → after_open ≡ [] → HasTaken tells base heard' (taken ++ byte ∷ []) m' after_open after
ends_line_by tells base heard heard' taken line_open after_open m m' count after byte t run newline none =
    subst (λ b. HasTaken tells base heard' (taken ++ b ∷ []) m' after_open after) (sym newline)
    (subst (λ o. HasTaken tells base heard' (taken ++ 10 ∷ []) m' o after) (sym none) (ends_line tells base heard heard' taken line_open m m' count after t run))

pub stops_line_by : (why : Ended) (tells : Bool) (base heard heard' : Seen) (taken line_open : List ℕ) (m : Position) (count after byte : ℕ) → HasTaken tells base heard taken m line_open count
    → StopsText why tells line_open m count heard heard' → after ≡ count → byte ≡ 10 → Stops why tells base heard' (taken ++ byte ∷ []) after
stops_line_by why tells base heard heard' taken line_open m count after byte t stop same newline =
    subst (λ b. Stops why tells base heard' (taken ++ b ∷ []) after) (sym newline) (stops_line tells base heard taken line_open m count t why heard' after stop same)

-- the bytes behind the one that stops the run
pub stops_within : (why : Ended) (tells : Bool) (base heard : Seen) (taken bytes : List ℕ) (i byte count : ℕ) → i < length bytes → byte ≡ get_or bytes i 0
    → Stops why tells base heard ((taken ++ take i bytes) ++ byte ∷ []) count → Stops why tells base heard (taken ++ bytes) count
stops_within why tells base heard taken bytes i byte count small is s =
    subst (λ xs. Stops why tells base heard xs count) (whole taken bytes i byte small is) (stops_more why tells base heard ((taken ++ take i bytes) ++ byte ∷ []) (drop (suc i) bytes) count s) where
      whole : (front xs : List ℕ) (i byte : ℕ) → i < length xs → byte ≡ get_or xs i 0 → (((front ++ take i xs) ++ byte ∷ []) ++ drop (suc i) xs) ≡ front ++ xs
      whole front xs i byte small is = append_assoc (front ++ take i xs) (byte ∷ []) (drop (suc i) xs) ∙ append_assoc front (take i xs) (byte ∷ drop (suc i) xs)
          ∙ ap (λ ys. front ++ ys) (ap (λ b. take i xs ++ (b ∷ drop (suc i) xs)) is ∙ ap (λ ys. take i xs ++ ys) (sym (drop-cons xs i 0 small)) ∙ take-append-drop i xs)

pub byte_taken : (tells : Bool) (base heard : Seen) (taken bytes line_open : List ℕ) (m : Position) (i byte count : ℕ) → i < length bytes → byte ≡ get_or bytes i 0
    → HasTaken tells base heard ((taken ++ take i bytes) ++ byte ∷ []) m line_open count → HasTaken tells base heard (taken ++ take (i + 1) bytes) m line_open count
byte_taken tells base heard taken bytes line_open m i byte count small is has =
    subst (λ xs. HasTaken tells base heard xs m line_open count)
    (append_assoc taken (take i bytes) (byte ∷ []) ∙ ap (λ b. taken ++ (take i bytes ++ b ∷ [])) is ∙ ap (λ xs. taken ++ xs) (next bytes i small)) has where
      next : (xs : List ℕ) (i : ℕ) → i < length xs → take i xs ++ get_or xs i 0 ∷ [] ≡ take (i + 1) xs
      next xs i small = sym (take-suc xs i 0 small) ∙ ap (λ (k : ℕ). take k xs) (let e : suc i ≡ i + 1 = omega arith in e)

pub all_taken : (tells : Bool) (base heard : Seen) (taken bytes line_open : List ℕ) (m : Position) (i count : ℕ) → i ≡ length bytes
    → HasTaken tells base heard (taken ++ take i bytes) m line_open count → HasTaken tells base heard (taken ++ bytes) m line_open count
all_taken tells base heard taken bytes line_open m i count all has =
    subst (λ (xs : List ℕ). HasTaken tells base heard (taken ++ xs) m line_open count) (ap (λ (k : ℕ). take k bytes) all ∙ take-length bytes) has
