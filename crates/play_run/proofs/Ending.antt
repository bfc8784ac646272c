-- How the run of a source's bytes ends.
use Rattle.std.proofs.Common.{◌≡◌, ◌≢◌, ℕ, ◌+◌, ◌≤◌, Bool, true, false, eqb, List, [], ◌∷◌, ◌++◌, length, take, drop, get_or, refl, sym, ap, subst, ◌∙◌, arith, append_assoc, append-nil, length-append, length-take, length-drop, ◌-◌, inl, inr}
use Rattle.std.specs.Prelude.{◌⊎◌}
use Rattle.std.proofs.Math.Seq.{take-add}
use Rattle.std.proofs.lemmas.Bool.{eqb-true, false≢true}
use Rattle.forest_model.specs.Blocks.{File}
use Rattle.play_run.specs.Play.{ComesTo, RunsSome}
use Rattle.play_run.specs.Script.{IsText, ended, HasSaid, HasSaidPart, RunsPrefix, RunsPart, last_line}
use Rattle.play_run.specs.Seen.{Seen}
use Rattle.play_run.specs.Playing.{Position}
use Rattle.play_run.specs.Progress.{HasRun, HasTaken, HasHeard, HasHeardPart, HasBroken, Stops, StopsText, StopsAtBad, StopsByHost, RunsSomeWhole, RunsWholePart, Feeds, EndsBy, EndsByHost}
use Rattle.play_run.specs.declared.player.Ended.{Ended}
use Rattle.play_run.specs.declared.player.Ended.TheVariants.{BadLine, NoMemory, HostFault, SourceFault, AtEnd, Damaged}
use Rattle.play_run.specs.declared.player.TheConstants.{SCRIPT_LIMIT}
use Rattle.play_run.proofs.Runs.{heard_run, comes_as, comes_same, breaks_as}
use Rattle.play_run.proofs.Taking.{stops_more}

-- ---- at the end of the input

pub ends_empty : (tells : Bool) (base heard : Seen) (taken line_open : List ℕ) (m : Position) (count : ℕ) → HasTaken tells base heard taken m line_open count → length taken ≤ SCRIPT_LIMIT → line_open ≡ []
    → EndsBy AtEnd tells base heard taken [] count
ends_empty tells base heard taken line_open m count t short none =
    let h : HasHeard tells base heard t.texts = heard_run tells base heard t.texts m count t.run in (
      refl,
      record {
        first = h.first;
        last = h.last;
        said = h.said;
        all = record {
          texts = t.texts;
          rest = [];
          cut = t.cut ∙ ap (λ o. ended t.texts ++ o) none;
          no_newline = tt;
          said_all = subst (λ ts. HasSaid h.first h.last ts h.said) (sym (append-nil t.texts)) h.ran;
        };
        short = short;
        said_is = h.said_is;
        first_is = h.first_is;
        last_is = h.last_is;
      },
    )

pub nonempty : (xs : List ℕ) → eqb (length xs) 0 ≡ false → xs ≢ []
nonempty xs some none = false≢true (sym some ∙ ap (λ ys. eqb (length ys) 0) none)

pub empty : (xs : List ℕ) → eqb (length xs) 0 ≡ true → xs ≡ []
empty [] e = refl
empty (x ∷ xs) e = absurd (omega (arith, eqb-true _ _ e))

last_of : (xs : List ℕ) → xs ≢ [] → last_line xs ≡ xs ∷ []
last_of [] some = absurd (some refl)
last_of (x ∷ xs) some = refl

pub ends_last : (tells : Bool) (base heard heard' : Seen) (taken line_open : List ℕ) (m m' : Position) (count after : ℕ) → HasTaken tells base heard taken m line_open count
    → length taken ≤ SCRIPT_LIMIT → line_open ≢ []
    → ((texts : List (List ℕ)) → IsText line_open → HasRun tells base heard texts m count → HasRun tells base heard' (texts ++ line_open ∷ []) m' after)
    → EndsBy AtEnd tells base heard' taken [] after
ends_last tells base heard heard' taken line_open m m' count after t short some run =
    let h : HasHeard tells base heard' (t.texts ++ line_open ∷ []) = heard_run tells base heard' (t.texts ++ line_open ∷ []) m' after (run t.texts t.no_newline t.run) in (
      refl,
      record {
        first = h.first;
        last = h.last;
        said = h.said;
        all = record {
          texts = t.texts;
          rest = line_open;
          cut = t.cut;
          no_newline = t.no_newline;
          said_all = subst (λ ts. HasSaid h.first h.last (t.texts ++ ts) h.said) (sym (last_of line_open some)) h.ran;
        };
        short = short;
        said_is = h.said_is;
        first_is = h.first_is;
        last_is = h.last_is;
      },
    )

-- why the last line stops the run, which has no newline
module _ (tells : Bool) (base heard : Seen) (taken line_open : List ℕ) (m : Position) (count : ℕ) (t : HasTaken tells base heard taken m line_open count) (some : line_open ≢ []) where
  some_run : (first last : File) (said : List ℕ) → HasSaid first last t.texts said → RunsPrefix first last taken said
  some_run first last said has = record { texts = t.texts; rest = line_open; cut = t.cut; said_all = has }

  last_run : (n : ℕ) (first last : File) (said : List ℕ) → HasSaidPart n first last (t.texts ++ line_open ∷ []) said → RunsPart n first last taken said
  last_run n first last said has = record {
    texts = t.texts ++ line_open ∷ [];
    cut = inr (t.texts, line_open, t.cut, t.no_newline, ap (λ ts. t.texts ++ ts) (sym (last_of line_open some)));
    said_part = has;
  }

  pub ends_stops : (why : Ended) (heard' : Seen) (after : ℕ) → StopsText why tells line_open m count heard heard' → after ≡ count → EndsBy why tells base heard' taken [] after
  ends_stops BadLine heard' after stop same = record {
    texts = t.texts;
    taken = taken;
    rest = line_open;
    source = sym (append-nil taken);
    cut = t.cut;
    bad = inr (inl (t.no_newline, stop.0, some, refl));
    counted = t.run.counted ∙ sym same;
    run = comes_same tells base heard heard' (λ first last. HasSaid first last t.texts) (heard_run tells base heard t.texts m count t.run) stop.1;
  }
  ends_stops NoMemory heard' after stop same = (taken, sym (append-nil taken), by (stop base t.texts t.no_newline t.run)) where
    by : HasHeard tells base heard' t.texts ⊎ HasHeardPart 0 tells base heard' (t.texts ++ line_open ∷ []) → ComesTo tells base heard' (RunsSome taken)
    by (inl all) = comes_as tells base heard' (λ first last. HasSaid first last t.texts) (RunsSome taken) (λ first last said has. inl (some_run first last said has)) all
    by (inr part) = comes_as tells base heard' (λ first last. HasSaidPart 0 first last (t.texts ++ line_open ∷ [])) (RunsSome taken) (λ first last said has. inr (last_run 0 first last said has)) part
  ends_stops HostFault heard' after stop same = (taken, sym (append-nil taken), by (stop base t.texts t.no_newline t.run)) where
    by : HasBroken tells base heard' t.texts ⊎ ((n : ℕ) × HasHeardPart n tells base heard' (t.texts ++ line_open ∷ [])) → EndsByHost tells base heard' taken
    by (inl broken) = inr (breaks_as tells base heard' (λ first last. HasSaid first last t.texts) (λ first last. RunsPrefix first last taken) some_run broken)
    by (inr part) = inl (comes_as tells base heard' (λ first last. HasSaidPart part.0 first last (t.texts ++ line_open ∷ [])) (λ first last said. (n : ℕ) × RunsPart n first last taken said)
        (λ first last said has. (part.0, last_run part.0 first last said has)) part.1)
  ends_stops (Damaged file block) heard' after stop same = (
    (
      taken,
      sym (append-nil taken),
      comes_same tells base heard heard' (λ first last. RunsPrefix first last taken)
          (comes_as tells base heard (λ first last. HasSaid first last t.texts) (λ first last. RunsPrefix first last taken) some_run (heard_run tells base heard t.texts m count t.run)) (λ told. absurd (stop told)),
    ),
    stop,
  )
  ends_stops AtEnd heard' after stop same = absurd stop
  ends_stops SourceFault heard' after stop same = absurd stop

-- ---- after a read

pub fault_ends : (tells : Bool) (base heard : Seen) (taken script left line_open : List ℕ) (m : Position) (count : ℕ) → HasTaken tells base heard taken m line_open count → length taken ≤ SCRIPT_LIMIT
    → script ≡ taken ++ left → EndsBy SourceFault tells base heard script left count
fault_ends tells base heard taken script left line_open m count t short source =
    let h : HasHeard tells base heard t.texts = heard_run tells base heard t.texts m count t.run in
    record {
      taken = taken;
      source = source;
      short = short;
      first = h.first;
      last = h.last;
      said = h.said;
      whole = record { texts = t.texts; rest = line_open; cut = t.cut; no_newline = t.no_newline; said_all = h.ran };
      said_is = h.said_is;
      first_is = h.first_is;
      last_is = h.last_is;
    }

-- nothing was read, so the source is at its end
pub at_end : (why : Ended) (tells : Bool) (base heard : Seen) (taken script old left : List ℕ) (count : ℕ) → EndsBy why tells base heard taken [] count → script ≡ taken ++ old → old ≡ [] → left ≡ []
    → EndsBy why tells base heard script left count
at_end why tells base heard taken script old left count e source none left_none =
    let whole : taken ≡ script = sym (source ∙ ap (λ o. taken ++ o) none ∙ append-nil taken) in
    subst (λ s. EndsBy why tells base heard s left count) whole (subst (λ l. EndsBy why tells base heard taken l count) (sym left_none) e)

taken_so_far : (taken kept more left old script : List ℕ) → old ≡ (kept ++ more) ++ left → script ≡ taken ++ old → script ≡ ((taken ++ kept) ++ more) ++ left
taken_so_far taken kept more left old script read source =
    source ∙ ap (λ o. taken ++ o) read ∙ sym (append_assoc taken (kept ++ more) left) ∙ ap (λ xs. xs ++ left) (sym (append_assoc taken kept more))

part_of_whole : (n : ℕ) (taken : List ℕ) (first last : File) (said : List ℕ) → RunsWholePart n first last taken said → RunsPart n first last taken said
part_of_whole n taken first last said w = record { texts = w.texts; cut = inl (w.rest, w.cut); said_part = w.said_part }

some_of_whole : (taken : List ℕ) (first last : File) (said : List ℕ) → RunsSomeWhole taken first last said → RunsSome taken first last said
some_of_whole taken first last said (inl p) = inl p
some_of_whole taken first last said (inr p) = inr (part_of_whole 0 taken first last said p)

by_host_ends : (tells : Bool) (base heard : Seen) (taken : List ℕ) → StopsByHost tells base heard taken → EndsByHost tells base heard taken
by_host_ends tells base heard taken (inl s) =
    inl (comes_as tells base heard (λ first last said. (n : ℕ) × RunsWholePart n first last taken said) (λ first last said. (n : ℕ) × RunsPart n first last taken said)
    (λ first last said p. (p.0, part_of_whole p.0 taken first last said p.1)) s)
by_host_ends tells base heard taken (inr s) = inr s

pub stops_ends : (why : Ended) (tells : Bool) (base heard : Seen) (taken kept more left old script : List ℕ) (count : ℕ) → Stops why tells base heard (taken ++ kept) count
    → old ≡ (kept ++ more) ++ left → script ≡ taken ++ old → EndsBy why tells base heard script left count
stops_ends BadLine tells base heard taken kept more left old script count s read source =
    let all : StopsAtBad tells base heard ((taken ++ kept) ++ more) count = stops_more BadLine tells base heard (taken ++ kept) more count s in
    record {
      texts = all.texts;
      taken = (taken ++ kept) ++ more;
      rest = all.bad ++ 10 ∷ all.more;
      source = taken_so_far taken kept more left old script read source;
      cut = all.cut ∙ append_assoc (ended all.texts) all.bad (10 ∷ all.more);
      bad = inl (all.bad, all.more, all.no_newline, all.no_line, refl);
      counted = all.counted;
      run = all.run;
    }
stops_ends NoMemory tells base heard taken kept more left old script count s read source =
    let all : Stops NoMemory tells base heard ((taken ++ kept) ++ more) count = stops_more NoMemory tells base heard (taken ++ kept) more count s in (
      (taken ++ kept) ++ more,
      taken_so_far taken kept more left old script read source,
      comes_as tells base heard (RunsSomeWhole ((taken ++ kept) ++ more)) (RunsSome ((taken ++ kept) ++ more)) (some_of_whole ((taken ++ kept) ++ more)) all,
    )
stops_ends (Damaged file block) tells base heard taken kept more left old script count s read source =
    let all : Stops (Damaged file block) tells base heard ((taken ++ kept) ++ more) count = stops_more (Damaged file block) tells base heard (taken ++ kept) more count s in
    (((taken ++ kept) ++ more, taken_so_far taken kept more left old script read source, all.0), all.1)
stops_ends HostFault tells base heard taken kept more left old script count s read source =
    let all : Stops HostFault tells base heard ((taken ++ kept) ++ more) count = stops_more HostFault tells base heard (taken ++ kept) more count s in
    ((taken ++ kept) ++ more, taken_so_far taken kept more left old script read source, by_host_ends tells base heard ((taken ++ kept) ++ more) all)
stops_ends AtEnd tells base heard taken kept more left old script count s read source = absurd s
stops_ends SourceFault tells base heard taken kept more left old script count s read source = absurd s

-- the byte behind the limit was taken
pub too_long_ends : (tells : Bool) (base heard : Seen) (taken kept left old script line_open : List ℕ) (m : Position) (count byte : ℕ) → HasTaken tells base heard (taken ++ kept) m line_open count
    → old ≡ (kept ++ byte ∷ []) ++ left → script ≡ taken ++ old → length taken + (length kept + 1) ≡ SCRIPT_LIMIT + 1 → EndsBy BadLine tells base heard script left count
too_long_ends tells base heard taken kept left old script line_open m count byte t read source long = record {
  texts = t.texts;
  taken = (taken ++ kept) ++ byte ∷ [];
  rest = line_open ++ byte ∷ [];
  source = taken_so_far taken kept (byte ∷ []) left old script read source;
  cut = ap (λ xs. xs ++ byte ∷ []) t.cut ∙ append_assoc (ended t.texts) line_open (byte ∷ []);
  bad = inr (inr (omega (arith, length-append (taken ++ kept) (byte ∷ []), length-append taken kept, long), (line_open, byte, t.no_newline, refl)));
  counted = t.run.counted;
  run = heard_run tells base heard t.texts m count t.run;
}

-- so many bytes more
feeds : (tells : Bool) (base heard : Seen) (taken more left old script line_open : List ℕ) (m : Position) (count n : ℕ) → HasTaken tells base heard (taken ++ more) m line_open count
    → old ≡ more ++ left → script ≡ taken ++ old → length more ≡ n → Feeds tells base heard taken script left m line_open count n
feeds tells base heard taken more left old script line_open m count n t read source long = record {
  more = more;
  source = source ∙ ap (λ o. taken ++ o) read ∙ sym (append_assoc taken more left);
  long = long;
  has = t;
}

-- ---- the same by what a read gave: the first n bytes of the room, of which m were run

parts : (old room left : List ℕ) (n m : ℕ) → m ≤ n → old ≡ take n room ++ left → old ≡ (take m room ++ take (n - m) (drop m room)) ++ left
parts old room left n m le given =
    let sum : n ≡ m + (n - m) = omega arith in
    given ∙ ap (λ k. take k room ++ left) sum ∙ ap (λ xs. xs ++ left) (take-add m (n - m) room)

pub read_stops : (why : Ended) (tells : Bool) (base heard : Seen) (taken room left old script : List ℕ) (n m count : ℕ) → Stops why tells base heard (taken ++ take m room) count → m ≤ n
    → old ≡ take n room ++ left → script ≡ taken ++ old → EndsBy why tells base heard script left count
read_stops why tells base heard taken room left old script n m count s le given source =
    stops_ends why tells base heard taken (take m room) (take (n - m) (drop m room)) left old script count s (parts old room left n m le given) source

pub read_feeds : (tells : Bool) (base heard : Seen) (taken room left old script line_open : List ℕ) (m : Position) (count n k : ℕ) → HasTaken tells base heard (taken ++ take k room) m line_open count → n ≡ k
    → n ≤ length room → old ≡ take n room ++ left → script ≡ taken ++ old → Feeds tells base heard taken script left m line_open count n
read_feeds tells base heard taken room left old script line_open m count n k t same fits given source =
    feeds tells base heard taken (take k room) left old script line_open m count n t (given ∙ ap (λ i. take i room ++ left) same) source (omega (arith, length-take k room, same, fits))

one_byte : (xs : List ℕ) → 1 ≤ length xs → take 1 xs ≡ get_or xs 0 0 ∷ []
one_byte [] some = absurd (omega arith)
one_byte (x ∷ xs) some = refl

pub read_too_long : (tells : Bool) (base heard : Seen) (taken room left old script line_open : List ℕ) (m : Position) (count n k : ℕ) → HasTaken tells base heard (taken ++ take k room) m line_open count → n ≡ k + 1
    → n ≤ length room → old ≡ take n room ++ left → script ≡ taken ++ old → length taken + n ≡ SCRIPT_LIMIT + 1 → EndsBy BadLine tells base heard script left count
read_too_long tells base heard taken room left old script line_open m count n k t one fits given source long =
    let behind : 1 ≤ length (drop k room) = omega (arith, length-drop k room) in
    let single : take (n - k) (drop k room) ≡ get_or (drop k room) 0 0 ∷ [] = (let one_more : n - k ≡ 1 = omega arith in ap (λ i. take i (drop k room)) one_more) ∙ one_byte (drop k room) behind in
    too_long_ends tells base heard taken (take k room) left old script line_open m count (get_or (drop k room) 0 0) t
    (parts old room left n k (omega arith) given ∙ ap (λ xs. (take k room ++ xs) ++ left) single) source
    (omega (arith, length-take k room))
