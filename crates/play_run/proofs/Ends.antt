-- What a run that has ended says of the whole program.
use Rattle.std.proofs.Common.{◌≡◌, ◌≢◌, ℕ, ◌+◌, ◌≤◌, Bool, true, false, List, [], ◌∷◌, ◌++◌, length, take, refl, sym, ap, subst, ◌∙◌, arith, append_assoc, append-nil, length-append, inl, inr}
use Rattle.std.specs.Prelude.{IsTrue, ◌⊎◌}
use Rattle.std.specs.List.{AllByRecursion}
use Rattle.std.proofs.lemmas.Bool.{false≢true}
use Rattle.forest_model.specs.Blocks.{File}
use Rattle.play_run.specs.Seen.{Seen}
use Rattle.play_run.specs.Script.{RunsAll, RunsWhole, RunsPrefix, RunsPart, MeetsBad, HoldsBad, EndsBad, IsGood, IsBadLine, IsBadEnd, IsTooLong, IsText, AreTaken, ended, bad_line}
use Rattle.play_run.specs.Play.{ComesTo, CutsText, FailsSeen, MeetsDamaged, PartSaid, Takes, RunsAndSays, RunsSome, source_fault, damaged}
use Rattle.play_run.specs.Progress.{EndsBy, EndsByHost, EndsWith, SaysEnd, EndsAtBad}
use Rattle.play_run.specs.declared.player.Ended.{Ended}
use Rattle.play_run.specs.declared.player.Ended.TheVariants.{BadLine, NoMemory, HostFault, SourceFault, AtEnd, Damaged}
use Rattle.play_run.specs.declared.player.TheConstants.{SCRIPT_LIMIT}
use Rattle.play_run.proofs.Runs.{comes_as, comes_same, breaks_same}
use Rattle.play_run.proofs.Cuts.{good_texts, taken_texts, no_bad_line, no_bad_end, same_taken}

-- ---- statuses

of_two : (s n a b : ℕ) → (s ≡ a) ⊎ (s ≡ b) → s ≡ n → (n ≢ a) → (n ≢ b) → ⊥
of_two s n a b (inl e) is first second = first (sym is ∙ e)
of_two s n a b (inr e) is first second = second (sym is ∙ e)

of_one : (s n m : ℕ) → s ≡ m → s ≡ n → (n ≢ m) → ⊥
of_one s n m e is other = other (sym is ∙ e)

-- the first bytes of a text, behind others
part_of : (tells : Bool) (base heard now : Seen) (first last : File) (before text : List ℕ) (P : File → File → List ℕ → Type 0) → ((n : ℕ) → P first last (before ++ take n text)) → (IsTrue tells → heard.said ≡ base.said ++ before)
    → (IsTrue tells → first ≡ base.file) → (IsTrue tells → last ≡ heard.file) → (IsTrue tells → PartSaid text heard now) → ComesTo tells base now P
part_of true base heard now first last before text P ran is first_is last_is part =
    let p = part refl in
    record {
      first = first;
      last = last;
      said = before ++ take p.n text;
      ran = ran p.n;
      said_is = λ told. p.said ∙ ap (λ xs. xs ++ take p.n text) (is refl) ∙ append_assoc base.said before (take p.n text);
      first_is = first_is;
      last_is = λ told. last_is told ∙ sym p.file;
    }
part_of false base heard now first last before text P ran is first_is last_is part = record {
  first = first;
  last = last;
  said = before ++ take 0 text;
  ran = ran 0;
  said_is = λ told. absurd (false≢true told);
  first_is = λ told. absurd (false≢true told);
  last_is = λ told. absurd (false≢true told);
}

module _ (tells : Bool) (base heard now : Seen) (script left : List ℕ) (count status : ℕ) where
  pub played_all : (why : Ended) → EndsBy why tells base heard script left count → EndsWith why status → (IsTrue tells → SaysEnd why status count heard now) → status ≡ 0
      → (left ≡ []) × ComesTo tells base now (λ first last. RunsAll first last script)
  played_all AtEnd e w s is = (
    e.0,
    record {
      first = e.1.first;
      last = e.1.last;
      said = e.1.said;
      ran = e.1.all;
      said_is = λ told. ap (λ (x : Seen). x.said) (s told) ∙ e.1.said_is told;
      first_is = e.1.first_is;
      last_is = λ told. e.1.last_is told ∙ ap (λ (x : Seen). x.file) (sym (s told));
    },
  )
  played_all SourceFault e w s is = absurd (of_two status 0 2 4 w is (λ x. absurd (omega (arith, x))) (λ x. absurd (omega (arith, x))))
  played_all BadLine e w s is = absurd (of_two status 0 3 4 w is (λ x. absurd (omega (arith, x))) (λ x. absurd (omega (arith, x))))
  played_all NoMemory e w s is = absurd (of_one status 0 5 w is (λ x. absurd (omega (arith, x))))
  played_all HostFault e w s is = absurd (of_one status 0 4 w is (λ x. absurd (omega (arith, x))))
  played_all (Damaged file block) e w s is = absurd (of_two status 0 6 4 w is (λ x. absurd (omega (arith, x))) (λ x. absurd (omega (arith, x))))

  pub played_fault : (why : Ended) → EndsBy why tells base heard script left count → EndsWith why status → (IsTrue tells → SaysEnd why status count heard now) → status ≡ 2
      → Takes script left (λ taken. ComesTo tells base now (RunsAndSays source_fault taken))
  played_fault SourceFault e w s is = (
    e.taken,
    e.source,
    record {
      first = e.first;
      last = e.last;
      said = e.said ++ source_fault;
      ran = (e.said, e.whole, refl);
      said_is = λ told. ((s told).0 is).said ∙ ap (λ xs. xs ++ source_fault) (e.said_is told) ∙ append_assoc base.said e.said source_fault;
      first_is = e.first_is;
      last_is = λ told. e.last_is told ∙ sym ((s told).0 is).file;
    },
  )
  played_fault AtEnd e w s is = absurd (of_one status 2 0 w is (λ x. absurd (omega (arith, x))))
  played_fault BadLine e w s is = absurd (of_two status 2 3 4 w is (λ x. absurd (omega (arith, x))) (λ x. absurd (omega (arith, x))))
  played_fault NoMemory e w s is = absurd (of_one status 2 5 w is (λ x. absurd (omega (arith, x))))
  played_fault HostFault e w s is = absurd (of_one status 2 4 w is (λ x. absurd (omega (arith, x))))
  played_fault (Damaged file block) e w s is = absurd (of_two status 2 6 4 w is (λ x. absurd (omega (arith, x))) (λ x. absurd (omega (arith, x))))

  -- what is said behind the lines before a bad one
  meets_bad : (e : EndsAtBad tells base heard script left count) → MeetsBad e.run.first e.run.last e.taken left (e.run.said ++ bad_line (count + 1))
  meets_bad e = record {
    texts = e.texts;
    rest = e.rest;
    cut = e.cut;
    bad = e.bad;
    before = e.run.said;
    said_before = e.run.ran;
    is = ap (λ n. e.run.said ++ bad_line (n + 1)) (sym e.counted);
  }

  pub played_bad : (why : Ended) → EndsBy why tells base heard script left count → EndsWith why status → (IsTrue tells → SaysEnd why status count heard now) → status ≡ 3
      → Takes script left (λ taken. ComesTo tells base now (λ first last. MeetsBad first last taken left))
  played_bad BadLine e w s is = (
    e.taken,
    e.source,
    record {
      first = e.run.first;
      last = e.run.last;
      said = e.run.said ++ bad_line (count + 1);
      ran = meets_bad e;
      said_is = λ told. ((s told).0 is).said ∙ ap (λ xs. xs ++ bad_line (count + 1)) (e.run.said_is told) ∙ append_assoc base.said e.run.said (bad_line (count + 1));
      first_is = e.run.first_is;
      last_is = λ told. e.run.last_is told ∙ sym ((s told).0 is).file;
    },
  )
  played_bad AtEnd e w s is = absurd (of_one status 3 0 w is (λ x. absurd (omega (arith, x))))
  played_bad SourceFault e w s is = absurd (of_two status 3 2 4 w is (λ x. absurd (omega (arith, x))) (λ x. absurd (omega (arith, x))))
  played_bad NoMemory e w s is = absurd (of_one status 3 5 w is (λ x. absurd (omega (arith, x))))
  played_bad HostFault e w s is = absurd (of_one status 3 4 w is (λ x. absurd (omega (arith, x))))
  played_bad (Damaged file block) e w s is = absurd (of_two status 3 6 4 w is (λ x. absurd (omega (arith, x))) (λ x. absurd (omega (arith, x))))

  cut_reply : (taken : List ℕ) (first last : File) (said : List ℕ) → ((n : ℕ) × RunsPart n first last taken said) → CutsText taken left first last said
  cut_reply taken first last said p = (p.0, inl p.1)

  by_host : (taken : List ℕ) → (IsTrue tells → now ≡ heard) → EndsByHost tells base heard taken → FailsSeen tells base now taken left
  by_host taken same (inl c) =
      inl (comes_same tells base heard now (CutsText taken left) (comes_as tells base heard (λ first last said. (n : ℕ) × RunsPart n first last taken said) (CutsText taken left) (cut_reply taken) c) same)
  by_host taken same (inr b) = inr (breaks_same tells base heard now (λ first last. RunsPrefix first last taken) b same)

  pub played_part : (why : Ended) → EndsBy why tells base heard script left count → EndsWith why status → (IsTrue tells → SaysEnd why status count heard now) → status ≡ 4
      → Takes script left (λ taken. FailsSeen tells base now taken left)
  unfolding meets_bad
  played_part HostFault e w s is = (e.0, e.1, by_host e.0 s e.2)
  played_part SourceFault e w s is = (
    e.taken,
    e.source,
    inl (part_of tells base heard now e.first e.last e.said source_fault (CutsText e.taken left) (λ n. (n, inr (inl (e.said, e.whole, refl)))) e.said_is e.first_is e.last_is (λ told. (s told).1 is)),
  )
  played_part BadLine e w s is = (
    e.taken,
    e.source,
    inl (part_of tells base heard now e.run.first e.run.last e.run.said (bad_line (count + 1)) (CutsText e.taken left)
        (λ n. (n, inr (inr (inl (e.run.said ++ bad_line (count + 1), meets_bad e, ap (λ k. e.run.said ++ take n (bad_line (k + 1))) (sym e.counted))))))
        e.run.said_is e.run.first_is e.run.last_is (λ told. (s told).1 is)),
  )
  played_part (Damaged file block) e w s is = (
    e.0.0,
    e.0.1,
    inl (part_of tells base heard now e.0.2.first e.0.2.last e.0.2.said (damaged file block) (CutsText e.0.0 left)
        (λ n. (n, inr (inr (inr (file, block, e.0.2.said, e.0.2.ran, refl))))) e.0.2.said_is e.0.2.first_is e.0.2.last_is (λ told. (s told).1 is)),
  )
  played_part AtEnd e w s is = absurd (of_one status 4 0 w is (λ x. absurd (omega (arith, x))))
  played_part NoMemory e w s is = absurd (of_one status 4 5 w is (λ x. absurd (omega (arith, x))))

  pub played_some : (why : Ended) → EndsBy why tells base heard script left count → EndsWith why status → (IsTrue tells → SaysEnd why status count heard now) → status ≡ 5
      → Takes script left (λ taken. ComesTo tells base now (RunsSome taken))
  played_some NoMemory e w s is = (e.0, e.1, comes_same tells base heard now (RunsSome e.0) e.2 s)
  played_some AtEnd e w s is = absurd (of_one status 5 0 w is (λ x. absurd (omega (arith, x))))
  played_some SourceFault e w s is = absurd (of_two status 5 2 4 w is (λ x. absurd (omega (arith, x))) (λ x. absurd (omega (arith, x))))
  played_some BadLine e w s is = absurd (of_two status 5 3 4 w is (λ x. absurd (omega (arith, x))) (λ x. absurd (omega (arith, x))))
  played_some HostFault e w s is = absurd (of_one status 5 4 w is (λ x. absurd (omega (arith, x))))
  played_some (Damaged file block) e w s is = absurd (of_two status 5 6 4 w is (λ x. absurd (omega (arith, x))) (λ x. absurd (omega (arith, x))))

  pub played_damaged : (why : Ended) → EndsBy why tells base heard script left count → EndsWith why status → (IsTrue tells → SaysEnd why status count heard now) → status ≡ 6
      → Takes script left (λ taken. ComesTo tells base now (MeetsDamaged taken))
  played_damaged (Damaged file block) e w s is = (
    e.0.0,
    e.0.1,
    record {
      first = e.0.2.first;
      last = e.0.2.last;
      said = e.0.2.said ++ damaged file block;
      ran = (file, block, e.0.2.said, e.0.2.ran, refl);
      said_is = λ told. ((s told).0 is).said ∙ ap (λ xs. xs ++ damaged file block) (e.0.2.said_is told) ∙ append_assoc base.said e.0.2.said (damaged file block);
      first_is = e.0.2.first_is;
      last_is = λ told. e.0.2.last_is told ∙ sym ((s told).0 is).file;
    },
  )
  played_damaged AtEnd e w s is = absurd (of_one status 6 0 w is (λ x. absurd (omega (arith, x))))
  played_damaged SourceFault e w s is = absurd (of_two status 6 2 4 w is (λ x. absurd (omega (arith, x))) (λ x. absurd (omega (arith, x))))
  played_damaged BadLine e w s is = absurd (of_two status 6 3 4 w is (λ x. absurd (omega (arith, x))) (λ x. absurd (omega (arith, x))))
  played_damaged NoMemory e w s is = absurd (of_one status 6 5 w is (λ x. absurd (omega (arith, x))))
  played_damaged HostFault e w s is = absurd (of_one status 6 4 w is (λ x. absurd (omega (arith, x))))

  -- ---- a bad line is met

  whole_is : (taken : List ℕ) → left ≡ [] → script ≡ taken ++ left → script ≡ taken
  whole_is taken none source = source ∙ ap (λ xs. taken ++ xs) none ∙ append-nil taken

  not_all : (first last : File) (said taken : List ℕ) → RunsAll first last script said → length script ≤ SCRIPT_LIMIT → script ≡ taken → HoldsBad taken → ⊥
  not_all first last said taken all short same (inl b) =
      no_bad_line all.texts b.texts all.rest b.bad.0 b.bad.1 (good_texts all.said_all.lines all.texts _ all.said_all.taken) all.no_newline b.are_texts b.bad.2 b.bad.3
      (sym all.cut ∙ same ∙ b.cut ∙ ap (λ xs. ended b.texts ++ xs) b.bad.4)
  not_all first last said taken all short same (inr long) = absurd (omega (arith, short, long, ap length same))

  not_whole : (first last : File) (said taken bad : List ℕ) → RunsWhole first last taken said → length taken ≤ SCRIPT_LIMIT → taken ≡ bad → HoldsBad bad → ⊥
  not_whole first last said taken bad all short same (inl b) =
      no_bad_line all.texts b.texts all.rest b.bad.0 b.bad.1
      (good_texts all.said_all.lines all.texts [] (subst (λ ts. AreTaken all.said_all.lines ts) (sym (append-nil all.texts)) all.said_all.taken)) all.no_newline b.are_texts b.bad.2 b.bad.3
      (sym all.cut ∙ same ∙ b.cut ∙ ap (λ xs. ended b.texts ++ xs) b.bad.4)
  not_whole first last said taken bad all short same (inr long) = absurd (omega (arith, short, long, ap length same))

  of_three : (status ≡ 3) ⊎ (status ≡ 4) → (status ≡ 3) ⊎ ((status ≡ 4) ⊎ ((status ≡ 5) ⊎ (status ≡ 6)))
  of_three (inl e) = inl e
  of_three (inr e) = inr (inl e)

  of_six : (status ≡ 6) ⊎ (status ≡ 4) → (status ≡ 3) ⊎ ((status ≡ 4) ⊎ ((status ≡ 5) ⊎ (status ≡ 6)))
  of_six (inl e) = inr (inr (inr e))
  of_six (inr e) = inr (inl e)

  pub met_bad : (why : Ended) → EndsBy why tells base heard script left count → EndsWith why status → Takes script left HoldsBad → (status ≡ 3) ⊎ ((status ≡ 4) ⊎ ((status ≡ 5) ⊎ (status ≡ 6)))
  met_bad AtEnd e w t = absurd (not_all e.1.first e.1.last e.1.said t.0 e.1.all e.1.short (whole_is t.0 e.0 t.1) t.2)
  met_bad SourceFault e w t = absurd (not_whole e.first e.last e.said e.taken t.0 e.whole e.short (same_taken script left e.taken t.0 e.source t.1) t.2)
  met_bad BadLine e w t = of_three w
  met_bad NoMemory e w t = inr (inr (inl w))
  met_bad HostFault e w t = inr (inl w)
  met_bad (Damaged file block) e w t = of_six w

  of_source : (status ≡ 2) ⊎ (status ≡ 4) → (status ≡ 2) ⊎ ((status ≡ 3) ⊎ ((status ≡ 4) ⊎ ((status ≡ 5) ⊎ (status ≡ 6))))
  of_source (inl e) = inl e
  of_source (inr e) = inr (inr (inl e))

  pub met_bad_end : (why : Ended) → EndsBy why tells base heard script left count → EndsWith why status → Takes script left (λ taken. EndsBad taken left)
      → (status ≡ 2) ⊎ ((status ≡ 3) ⊎ ((status ≡ 4) ⊎ ((status ≡ 5) ⊎ (status ≡ 6))))
  met_bad_end AtEnd e w t =
      let all = e.1.all in
      let b = t.2 in
      absurd (no_bad_end all.said_all.lines all.texts b.texts all.rest b.rest all.said_all.taken all.no_newline b.are_texts b.bad.0 b.bad.1 b.bad.2 (sym all.cut ∙ whole_is t.0 e.0 t.1 ∙ b.cut))
  met_bad_end SourceFault e w t = of_source w
  met_bad_end BadLine e w t = inr (of_three w)
  met_bad_end NoMemory e w t = inr (inr (inr (inl w)))
  met_bad_end HostFault e w t = inr (inr (inl w))
  met_bad_end (Damaged file block) e w t = inr (of_six w)

  -- ---- where nothing fails

  no_bad : IsGood script → EndsAtBad tells base heard script left count → ⊥
  no_bad g e = by e.bad where
    are : AllByRecursion IsText e.texts
    are = taken_texts e.run.ran.lines e.texts e.run.ran.taken

    by : IsBadLine e.rest ⊎ (IsBadEnd e.rest left ⊎ IsTooLong e.taken e.rest) → ⊥
    by (inl b) =
        no_bad_line g.texts e.texts g.rest b.0 (b.1 ++ left) (good_texts g.lines g.texts _ g.taken) g.no_newline are b.2 b.3
        (sym g.cut ∙ e.source ∙ ap (λ xs. xs ++ left) (e.cut ∙ ap (λ xs. ended e.texts ++ xs) b.4) ∙ append_assoc (ended e.texts) (b.0 ++ 10 ∷ b.1) left ∙ ap (λ xs. ended e.texts ++ xs) (append_assoc b.0 (10 ∷ b.1) left))
    by (inr (inl b)) =
        no_bad_end g.lines g.texts e.texts g.rest e.rest g.taken g.no_newline are b.0 b.1 b.2 (sym g.cut ∙ e.source ∙ ap (λ xs. e.taken ++ xs) b.3 ∙ append-nil e.taken ∙ e.cut)
    by (inr (inr b)) = absurd (omega (arith, g.short, ap length e.source, length-append e.taken left, b.0))

  pub completes : (why : Ended) → EndsBy why tells base heard script left count → EndsWith why status → IsTrue tells → IsGood script → (why ≡ SourceFault → ⊥) → (status ≡ 4 → ⊥) → (status ≡ 0) ⊎ (status ≡ 5)
  completes AtEnd e w told g source host = inl w
  completes SourceFault e w told g source host = absurd (source refl)
  completes BadLine e w told g source host = absurd (no_bad g e)
  completes NoMemory e w told g source host = inr w
  completes HostFault e w told g source host = absurd (host w)
  completes (Damaged file block) e w told g source host = absurd (e.1 told)
