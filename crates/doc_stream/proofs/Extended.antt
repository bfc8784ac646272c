-- Pieces that are records, and go on being them when the last one gets more bytes and others follow.
use Rattle.std.proofs.Common.{◌≡◌, ◌≢◌, ℕ, ◌+◌, List, [], ◌∷◌, ◌++◌, length, refl, sym, ◌∙◌, ap, subst, inl, inr, ⊎_elim, arith, length-append, append_assoc, append-nil}
use Rattle.std.proofs.lemmas.List.Elements.{filter-append}
use Rattle.forest_model.specs.declared.stored.Rec.{Rec}
use Rattle.forest_model.specs.Records.{record_bytes}
use Rattle.doc_stream.specs.Runs.{Piece, Follows, Spreads, StartsAt, AreRecords, left}
use Rattle.doc_stream.proofs.Filled.{left_some, left_empty}
use Rattle.doc_stream.proofs.Fronts.{cons≢nil, cases_nil, nil_rest}

left-append : (front pieces : List Piece) → left (front ++ pieces) ≡ left front ++ left pieces
left-append front pieces = filter-append _ front pieces

left-left : (pieces : List Piece) → left (left pieces) ≡ left pieces
left-left [] = refl
left-left (p ∷ pieces) = ⊎_elim
    (λ empty. ap left (left_empty p pieces empty) ∙ left-left pieces ∙ sym (left_empty p pieces empty))
    (λ some. ap left (left_some p pieces some) ∙ left_some p (left pieces) some ∙ ap (λ (l : List Piece). p ∷ l) (left-left pieces) ∙ sym (left_some p pieces some))
    (cases_nil p.bytes)

-- what is left behind a front
left_behind : (front pieces : List Piece) → left (front ++ left pieces) ≡ left (front ++ pieces)
left_behind front pieces = left-append front (left pieces) ∙ ap (λ (l : List Piece). left front ++ l) (left-left pieces) ∙ sym (left-append front pieces)

-- only the pieces with bytes count
pub same_left : (records : List (ℕ × Rec)) (pieces others : List Piece) → left pieces ≡ left others → AreRecords pieces records → AreRecords others records
same_left [] pieces others e are = sym e ∙ are
same_left ((a, r) ∷ records) pieces others e are =
    (are.0, subst (StartsAt a) e are.1, (are.2.0, subst (λ (l : List Piece). Spreads (record_bytes r) l are.2.0) e are.2.1, are.2.2))

-- others behind
starts_before : (a : ℕ) (pieces others : List Piece) → StartsAt a pieces → StartsAt a (pieces ++ others)
starts_before a [] others starts = absurd starts
starts_before a (p ∷ pieces) others starts = starts

follows_before : (p : Piece) (pieces others : List Piece) → Follows p pieces → Follows p (pieces ++ others)
follows_before p [] others follows = absurd follows
follows_before p (q ∷ pieces) others follows = follows

spreads_before : (bytes : List ℕ) (pieces behind others : List Piece) → Spreads bytes pieces behind → Spreads bytes (pieces ++ others) (behind ++ others)
spreads_before bytes [] behind others spreads = absurd spreads
spreads_before bytes (p ∷ pieces) behind others spreads = ⊎_elim
    (λ ends. inl (ends.0, ends.1, ap (λ (l : List Piece). l ++ others) ends.2))
    (λ goes. inr (goes.0, goes.1, goes.2, goes.3, follows_before p pieces others goes.4, spreads_before goes.0 pieces behind others goes.5))
    spreads

abbrev pub piece : ℕ → ℕ → List ℕ → Piece
piece block offset bytes = record { block = block; offset = offset; bytes = bytes }

left_further : (front pieces : List Piece) (p : Piece) → left (front ++ p ∷ left pieces) ≡ left (front ++ p ∷ pieces)
left_further front pieces p =
    ap left (sym (append_assoc front (p ∷ []) (left pieces))) ∙ left_behind (front ++ p ∷ []) pieces ∙ ap left (append_assoc front (p ∷ []) pieces)

-- what is left where the last piece has no bytes, and where it has some
pub left_none : (block offset : ℕ) (front : List Piece) → left (front ++ piece block offset [] ∷ []) ≡ left front
left_none block offset front = left-append front (piece block offset [] ∷ []) ∙ append-nil (left front)

left_last : (p : Piece) (front pieces : List Piece) → p.bytes ≢ [] → left (front ++ p ∷ pieces) ≡ left front ++ p ∷ left pieces
left_last p front pieces some = left-append front (p ∷ pieces) ∙ ap (λ (l : List Piece). left front ++ l) (left_some p pieces some)

starts_into : (a block offset : ℕ) (front pieces : List Piece) (tail more : List ℕ) → StartsAt a (front ++ piece block offset tail ∷ []) → StartsAt a (front ++ piece block offset more ∷ pieces)
starts_into a block offset [] pieces tail more starts = starts
starts_into a block offset (p ∷ front) pieces tail more starts = starts

-- The last piece gets more bytes, and others follow it.
module _ (block : ℕ) (added : List ℕ) (others : List Piece) where
  abbrev last : ℕ → List ℕ → Piece
  last offset bytes = piece block offset bytes

  -- what is left of the last piece behind some bytes
  record SpreadsInto (bytes : List ℕ) (front : List Piece) (offset : ℕ) (tail : List ℕ) (behind : List Piece) : Type 0 where
    into : List Piece
    from : ℕ
    rest : List ℕ
    is : behind ≡ into ++ last from rest ∷ []
    same_end : from + length rest ≡ offset + length tail
    spreads : Spreads bytes (front ++ last offset (tail ++ added) ∷ others) (into ++ last from (rest ++ added) ∷ others)

  follows_into : (p : Piece) (front : List Piece) (offset : ℕ) (tail : List ℕ) → Follows p (front ++ last offset tail ∷ []) → Follows p (front ++ last offset (tail ++ added) ∷ others)
  follows_into p [] offset tail follows = follows
  follows_into p (q ∷ front) offset tail follows = follows

  spreads_into : (bytes : List ℕ) (front : List Piece) (offset : ℕ) (tail : List ℕ) (behind : List Piece) → Spreads bytes (front ++ last offset tail ∷ []) behind → SpreadsInto bytes front offset tail behind
  spreads_into bytes [] offset tail behind spreads = ⊎_elim
      (λ ends. record {
        into = [];
        from = offset + length bytes;
        rest = ends.0;
        is = ends.2;
        same_end = omega (arith, ap length ends.1, length-append bytes ends.0);
        spreads = inl (ends.0 ++ added, ap (λ (l : List ℕ). l ++ added) ends.1 ∙ append_assoc bytes ends.0 added, refl);
      })
      (λ goes. absurd goes.4)
      spreads
  spreads_into bytes (p ∷ front) offset tail behind spreads = ⊎_elim
      (λ ends. record {
        into = record { block = p.block; offset = p.offset + length bytes; bytes = ends.0 } ∷ front;
        from = offset;
        rest = tail;
        is = ends.2;
        same_end = refl;
        spreads = inl (ends.0, ends.1, refl);
      })
      (λ goes.
      let later = spreads_into goes.0 front offset tail behind goes.5 in
      record {
        into = later.into;
        from = later.from;
        rest = later.rest;
        is = later.is;
        same_end = later.same_end;
        spreads = inr (goes.0, goes.1, goes.2, goes.3, follows_into p front offset tail goes.4, later.spreads);
      })
      spreads

-- the records go on behind these
abbrev GoesOn : ℕ → List ℕ → List Piece → List (ℕ × Rec) → List (ℕ × Rec) → Type 0
GoesOn block added others new records =
    (front : List Piece) (offset : ℕ) (tail : List ℕ) → AreRecords (front ++ piece block offset tail ∷ []) records → AreRecords (piece block (offset + length tail) added ∷ others) new
    → AreRecords (front ++ piece block offset (tail ++ added) ∷ others) (records ++ new)

module _ (block : ℕ) (added : List ℕ) (others : List Piece) (new : List (ℕ × Rec)) where
  none_on : (front : List Piece) (offset : ℕ) (tail : List ℕ) → left (front ++ piece block offset tail ∷ []) ≡ [] → AreRecords (piece block (offset + length tail) added ∷ others) new → AreRecords (front ++ piece block offset (tail ++ added) ∷ others) new
  none_on front offset [] nothing are =
      let here : piece block (offset + length {A = ℕ} []) added ≡ piece block offset added = ap (λ (o : ℕ). piece block o added) (omega arith) in
      same_left new (piece block (offset + length {A = ℕ} []) added ∷ others) (front ++ piece block offset added ∷ others)
      (ap (λ (p : Piece). left (p ∷ others)) here
      ∙ sym (left-append front (piece block offset added ∷ others) ∙ ap (λ (l : List Piece). l ++ left (piece block offset added ∷ others)) (sym (left_none block offset front) ∙ nothing)))
      are
  none_on front offset (b ∷ tail) nothing are =
      let p = piece block offset (b ∷ tail) in
      absurd (cons≢nil p [] (nil_rest (left front) (p ∷ []) (sym (left_last p front [] (cons≢nil b tail)) ∙ nothing)))

  one_on : (a : ℕ) (r : Rec) (records : List (ℕ × Rec)) → GoesOn block added others new records → GoesOn block added others new ((a, r) ∷ records)
  one_on a r records later front offset [] are behind =
      let rest = piece block offset added ∷ others in
      let is_left : left front ++ left rest ≡ left (front ++ rest) = sym (left-append front rest) in
      let beyond = are.2.0 in
      let spreads : Spreads (record_bytes r) (left front) beyond = subst (λ (l : List Piece). Spreads (record_bytes r) l beyond) (left_none block offset front) are.2.1 in
      let starts : StartsAt a (left front) = subst (StartsAt a) (left_none block offset front) are.1 in
      let on = later beyond offset [] (same_left records beyond (beyond ++ piece block offset [] ∷ []) (sym (left_none block offset beyond)) are.2.2) behind in (
        are.0,
        subst (StartsAt a) is_left (starts_before a (left front) (left rest) starts),
        (
          beyond ++ left rest,
          subst (λ (l : List Piece). Spreads (record_bytes r) l (beyond ++ left rest)) is_left (spreads_before (record_bytes r) (left front) beyond (left rest) spreads),
          same_left (records ++ new) (beyond ++ rest) (beyond ++ left rest) (sym (left_behind beyond rest)) on,
        ),
      )
  one_on a r records later front offset (b ∷ tail) are behind =
      let before = piece block offset (b ∷ tail) in
      let after = piece block offset (b ∷ tail ++ added) in
      let was_left : left (front ++ before ∷ []) ≡ left front ++ before ∷ [] = left_last before front [] (cons≢nil b tail) in
      let is_left : left front ++ after ∷ left others ≡ left (front ++ after ∷ others) = sym (left_last after front others (cons≢nil b (tail ++ added))) in
      let into = spreads_into block added (left others) (record_bytes r) (left front) offset (b ∷ tail) are.2.0 (subst (λ (l : List Piece). Spreads (record_bytes r) l are.2.0) was_left are.2.1) in
      let rest = piece block into.from (into.rest ++ added) in
      let starts = starts_into a block offset (left front) (left others) (b ∷ tail) (b ∷ tail ++ added) (subst (StartsAt a) was_left are.1) in
      let on = later into.into into.from into.rest (subst (λ (l : List Piece). AreRecords l records) into.is are.2.2) (subst (λ (n : ℕ). AreRecords (piece block n added ∷ others) new) (sym into.same_end) behind) in (
        are.0,
        subst (StartsAt a) is_left starts,
        (
          into.into ++ rest ∷ left others,
          subst (λ (l : List Piece). Spreads (record_bytes r) l (into.into ++ rest ∷ left others)) is_left into.spreads,
          same_left (records ++ new) (into.into ++ rest ∷ others) (into.into ++ rest ∷ left others) (sym (left_further into.into others rest)) on,
        ),
      )

  pub go_on : (records : List (ℕ × Rec)) → GoesOn block added others new records
  go_on [] front offset tail are behind = none_on front offset tail are behind
  go_on ((a, r) ∷ records) front offset tail are behind = one_on a r records (go_on records) front offset tail are behind
