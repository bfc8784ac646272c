-- What a plain session tells for a line is the turn of the session that it shows.
use Rattle.std.proofs.Common.{◌≡◌, ◌≢◌, ℕ, ◌<◌, Bool, true, false, refl, sym, ap, subst, ◌∙◌}
use Rattle.std.specs.Prelude.{Option, Some, None, ◌==◌, if◌then◌else◌, slice_index_or}
use Rattle.std.specs.Option.{option_map, option_map_or}
use Rattle.std.specs.Vec.{vec_len, with_item}
use Rattle.std.proofs.lemmas.Bool.{eqb-true}
use Rattle.forest_model.specs.Blocks.{File}
use Rattle.forest_model.specs.Session as sessions
use Rattle.forest_model.specs.Session.{Session, Turn, call_in, said_of, opened_snapshot, lane_after, copier_after, copier_failed, is_copied, outcome_of, turn_by_file, turn_by_copier, turn_by_snapshot, turn_aside, turn_of, turn_at}
use Rattle.forest_model.specs.Step.{Outcome, refused_or, step_of, step_with_room}
use Rattle.forest_model.specs.declared.call.Call.{Call}
use Rattle.forest_model.specs.declared.call.Reply.{Reply}
use Rattle.forest_model.specs.declared.call.Reply.TheVariants.{Snapped}
use Rattle.forest_model.specs.declared.line.Line.{Line}
use Rattle.forest_model.specs.declared.line.Said.{Said}
use Rattle.forest_model.specs.declared.line.Told.{Told}
use Rattle.forest_model.specs.declared.line.Verb.{Verb}
use Rattle.forest_model.specs.declared.line.Verb.TheVariants.{CompactCopy, Compact}
use Rattle.forest_model.specs.declared.refusal.Refusal.{Refusal}
use Rattle.forest_model.specs.declared.state.State.{State}
use Rattle.forest_oracle.specs.declared.oracle.Oracle.{Oracle}
use Rattle.plain_session.specs.Plain.{Shows, HasRoom, IsRoomFor, ShowsTurn, ShowsTurnIfAny, lane_shown, copier_shown, snapshot_shown, said_by_lane, lane_after_line}
use Rattle.plain_session.specs.declared.lane.Copier.{Copier}
use Rattle.plain_session.specs.declared.lane.Lane.{Lane}
use Rattle.plain_session.specs.declared.session.PlainSession.{PlainSession}
use Rattle.plain_session.specs.declared.snapshot.Snapshot.{Snapshot}
use Rattle.plain_session.proofs.Lanes.{after, leads, shown_at}

module _ (p : PlainSession) (oracle : Oracle) (at : ℕ) (x to : Lane) (held : Option Copier) (six : vec_len (with_item p.lanes at to) ≡ 16) (w : Session) (verb : Verb) (low : at < 16) (here : Shows p w) (is : x ≡ slice_index_or p.lanes.items at x) where
  abbrev line : Line
  line = record { lane = at; verb = verb }

  abbrev next : PlainSession
  next = after p oracle at to held six

  abbrev told : ℕ → Said → Told
  told place said = record { lane = at; place = place; said = said }

  shown : lane_shown x ≡ w.lanes at
  shown = shown_at p.lanes.items at x (w.lanes at) is (here.lanes at low)

  -- a call on the file
  pub by_file : (call : Call) (reply : Reply) (opened : Option Snapshot) (said : Said) → (reply, oracle.state) ≡ step_with_room p.oracle.state call
      → (reply ≡ Snapped → option_map snapshot_shown opened ≡ opened_snapshot call oracle.state)
      → ((reply ≡ Snapped → option_map snapshot_shown opened ≡ opened_snapshot call oracle.state) → lane_shown to ≡ lane_after (lane_shown x) call reply oracle.state)
      → option_map copier_shown held ≡ copier_after (option_map copier_shown p.copier) reply oracle.state → said ≡ said_of call reply
      → ShowsTurn next (turn_by_file w line call (step_with_room w.state call)) (told oracle.state.place said)
  by_file call reply opened said step opens notes copier_is said_is =
      subst (λ (o : Outcome). ShowsTurn next (turn_by_file w line call o) (told oracle.state.place said)) (step ∙ ap (λ (s : State). step_with_room s call) (sym here.state)) (
        ap (told oracle.state.place) (sym said_is),
        leads p oracle at to held six w oracle.state (lane_after (w.lanes at) call reply oracle.state) (copier_after w.copier reply oracle.state) low here
            (notes opens ∙ ap (λ (l : sessions.Lane). lane_after l call reply oracle.state) shown) refl
            (ap (λ (c : Option sessions.Copier). copier_after c reply oracle.state) here.copier ∙ sym copier_is),
      )

  -- the next documents of the base
  pub by_copier : (count place : ℕ) (said : Said) → oracle.state ≡ p.oracle.state → lane_shown to ≡ record (lane_shown x) { printed = place }
      → turn_by_copier w line count w.copier ≡ turn_at w line (option_map copier_shown held) place said
      → ShowsTurn next (turn_by_copier w line count w.copier) (told place said)
  by_copier count place said same printed copied =
      subst (λ (t : Turn). ShowsTurn next t (told place said)) (sym copied) (
        refl,
        leads p oracle at to held six w w.state (record (w.lanes at) { printed = place }) (option_map copier_shown held) low here
            (printed ∙ ap (λ (l : sessions.Lane). record l { printed = place }) shown) (here.state ∙ sym same) refl,
      )

  -- the lane's snapshot
  abbrev said_with : Option sessions.Snapshot → ℕ × Said
  said_with o = option_map_or (λ s. (s.place, sessions.shown s (w.lanes at).at verb)) o ((w.lanes at).printed, sessions.not_shown verb)

  abbrev lane_with : Option sessions.Snapshot → sessions.Lane
  lane_with o = option_map_or (λ s. record (w.lanes at) { printed = s.place; snapshot = if sessions.is_close verb then None else Some s }) o (w.lanes at)

  unmoved : (b : Bool) (n : ℕ) → (n == at) ≡ b → (if b then w.lanes at else w.lanes n) ≡ w.lanes n
  unmoved true n e = ap w.lanes (sym (eqb-true n at e))
  unmoved false n e = refl

  by_snapshot_of : (o : Option sessions.Snapshot) (place : ℕ) (said : Said) → oracle.state ≡ p.oracle.state → held ≡ p.copier → (place, said) ≡ said_with o → lane_shown to ≡ lane_with o
      → ShowsTurn next (turn_by_snapshot w line o) (told place said)
  by_snapshot_of None place said same copier tells lane = (
    ap (λ (t : ℕ × Said). told t.0 t.1) (sym tells),
    let there = leads p oracle at to held six w w.state (w.lanes at) w.copier low here lane (here.state ∙ sym same) (here.copier ∙ ap (option_map copier_shown) (sym copier)) in
        record {
          state = there.state;
          lanes = λ n low. there.lanes n low ∙ ap (λ (l : sessions.Lane). Some l) (unmoved (n == at) n refl);
          copier = there.copier;
        },
  )
  by_snapshot_of (Some s) place said same copier tells lane = (
    ap (λ (t : ℕ × Said). told t.0 t.1) (sym tells),
    leads p oracle at to held six w w.state (lane_with (Some s)) w.copier low here lane (here.state ∙ sym same) (here.copier ∙ ap (option_map copier_shown) (sym copier)),
  )

  pub by_snapshot : (place : ℕ) (said : Said) → oracle.state ≡ p.oracle.state → held ≡ p.copier → (place, said) ≡ said_by_lane (lane_shown x) verb → lane_shown to ≡ lane_after_line (lane_shown x) verb
      → ShowsTurn next (turn_by_snapshot w line (w.lanes at).snapshot) (told place said)
  by_snapshot place said same copier tells lane =
      by_snapshot_of (w.lanes at).snapshot place said same copier (tells ∙ ap (λ (l : sessions.Lane). said_by_lane l verb) shown) (lane ∙ ap (λ (l : sessions.Lane). lane_after_line l verb) shown)

-- ---- a line

-- the turn of a line, with the call that it makes
abbrev pub turn_with : Session → File → Line → Option Call → Option Turn
turn_with w file line call = option_map_or (λ call. Some (turn_by_file w line call (outcome_of w file call))) call (turn_aside w line line.verb)

never_failed : (copier : Option Copier) → copier_failed (option_map copier_shown copier) ≡ None
never_failed None = refl
never_failed (Some c) = refl

either : (b : Bool) (o : Outcome) → (if b then o else o) ≡ o
either true o = refl
either false o = refl

-- what a call tells is what the line that makes it tells
pub line_of_call : (p q : PlainSession) (w : Session) (file : File) (line : Line) (call : Call) (t : Told) → Shows p w → HasRoom w file line → call_in w line ≡ Some call
    → ShowsTurn q (turn_by_file w line call (step_with_room w.state call)) t → ShowsTurnIfAny q w (turn_of w file line) (Some t)
line_of_call p q w file line call t here room is_call tells = (
  (turn_by_file w line call (step_with_room w.state call)).0,
  ap (turn_with w file line) is_call
      ∙ ap (λ (o : Outcome). Some (turn_by_file w line call o)) (usual (step_of w.state file call) ∙ subst (IsRoomFor w file) is_call room)
      ∙ ap (λ (t : Told). Some ((turn_by_file w line call (step_with_room w.state call)).0, t)) tells.0,
  tells.1,
) where
  usual : (o : Outcome) → (if is_copied (said_of call o.0) then refused_or (copier_failed w.copier) w.state o else o) ≡ o
  usual o =
      ap (λ (why : Option Refusal). if is_copied (said_of call o.0) then refused_or why w.state o else o) (ap copier_failed here.copier ∙ never_failed p.copier)
      ∙ either (is_copied (said_of call o.0)) o

-- what is told by a turn is told by the line that has it
pub line_of_turn : (q : PlainSession) (w : Session) (turn : Turn) (any : Option Turn) (t : Told) → any ≡ Some turn → ShowsTurn q turn t → ShowsTurnIfAny q w any (Some t)
line_of_turn q w turn any t is tells = (turn.0, is ∙ ap (λ (t : Told). Some (turn.0, t)) tells.0, tells.1)

-- a line that makes no call, and isn't the copier's or the server's, is on the lane's snapshot
pub on_snapshot : (w : Session) (line : Line) (verb : Verb) → verb ≢ Compact → ((count : ℕ) → verb ≢ CompactCopy count) → turn_aside w line verb ≡ Some (turn_by_snapshot w line (w.lanes line.lane).snapshot)
on_snapshot w l Compact server copy = absurd (server refl)
on_snapshot w l (CompactCopy count) server copy = absurd (copy count refl)
on_snapshot w l verb server copy = refl
