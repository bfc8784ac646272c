-- What an open file answers to a verb is a turn of a session of lanes over the sequential store.
use Rattle.std.proofs.Common.{◌≡◌, ◌≢◌, ℕ, zero, suc, ◌<◌, ◌≤◌, Bool, true, false, List, [], ◌∷◌, refl, sym, ap, subst, ◌∙◌, arith, inl}
use Rattle.std.specs.Prelude.{IsTrue, Option, Some, None, ◌==◌, if◌then◌else◌, slice_get, slice_set, slice_index_or}
use Rattle.std.specs.Option.{option_map_or}
use Rattle.std.proofs.lemmas.Bool.{false≢true, eqb-true, eqb-false}
use Rattle.std.proofs.lemmas.Option.{get_or_from_slice_get}
use Rattle.forest_model.specs.Blocks.{File}
use Rattle.forest_model.specs.Documents.{after_items, doc_at, doc_numbered}
use Rattle.forest_model.specs.Run.{FileAfter}
use Rattle.forest_model.specs.Session.{Session, Lane, Copier, IsTurn, call_in, call_of, copier_failed, is_copied, lane_after, outcome_of, said_of, turn_aside, turn_by_file, with_lane}
use Rattle.forest_model.specs.State.{nothing_new}
use Rattle.forest_model.specs.Stores.{store_named, seq_of}
use Rattle.forest_model.specs.Step.{Outcome, refused_or, step_of, first_cause, causes, full, answer}
use Rattle.forest_model.specs.declared.call.Call.{Call}
use Rattle.forest_model.specs.declared.call.Call.TheVariants as calls
use Rattle.forest_model.specs.declared.call.Reply.{Reply}
use Rattle.forest_model.specs.declared.call.Reply.TheVariants as replies
use Rattle.forest_model.specs.declared.call.StoreRef.{StoreRef}
use Rattle.forest_model.specs.declared.refusal.Refusal.{Refusal}
use Rattle.forest_model.specs.declared.line.Line.{Line}
use Rattle.forest_model.specs.declared.line.Said.{Said}
use Rattle.forest_model.specs.declared.line.Verb.{Verb}
use Rattle.forest_model.specs.declared.line.Verb.TheVariants.{UseStore, Remove, Set, Del, Batch, Get, BySeq, Commit, Info}
use Rattle.forest_model.specs.declared.state.State.{State}
use Rattle.play_run.specs.Built.{is_built_verb}
use Rattle.play_run.specs.Playing.{Opened, Position, IsAt, Steps, Answers, Leads, call_at, store_after}

-- ---- the verbs that are run

-- their call is the same whatever the lane last printed
pub built_call : (lane : Lane) (copier : Option Copier) (verb : Verb) → IsTrue (is_built_verb verb) → call_of lane copier verb ≡ call_at lane.at verb
built_call lane copier (UseStore name read_only) b = refl
built_call lane copier (Remove name) b = refl
built_call lane copier (Set key meta body) b = refl
built_call lane copier (Del key) b = refl
built_call lane copier (Batch items) b = refl
built_call lane copier (Get key) b = refl
built_call lane copier (BySeq seq) b = refl
built_call lane copier Commit b = refl
built_call lane copier Info b = refl
built_call lane copier verb b = absurd (false≢true b)

-- nothing goes to the copier's file, and the file stays the same one
abbrev StaysHere : Call → State → Outcome → Type 0
StaysHere call s o = (is_copied (said_of call o.0) ≡ false) × (o.1.revision ≡ s.revision)

refused_here : (call : Call) (why : Option Refusal) (s : State) (o : Outcome) → StaysHere call s o → StaysHere call s (refused_or why s o)
refused_here call None s o stays = stays
refused_here call (Some why) s o stays = (refl, refl)

either_here : (call : Call) (b : Bool) (s : State) (x y : Outcome) → StaysHere call s x → StaysHere call s y → StaysHere call s (if b then x else y)
either_here call true s x y l r = l
either_here call false s x y l r = r

option_here : {A : Type 0} (call : Call) (o : Option A) (s : State) (f : A → Outcome) (none : Outcome) → ((a : A) → StaysHere call s (f a)) → StaysHere call s none → StaysHere call s (option_map_or f o none)
option_here call None s f none l r = r
option_here call (Some a) s f none l r = l a

abbrev IfCall : State → Option Call → Type 0
IfCall s None = Unit {0}
IfCall s (Some call) = StaysHere call s (answer s call)

built_answers : (s : State) (at : StoreRef) (verb : Verb) → IsTrue (is_built_verb verb) → IfCall s (call_at at verb)
built_answers s at (UseStore name read_only) b = option_here (calls.StoreOpen name read_only) (store_named s.stores name) s _ _ (λ st. (refl, refl)) (refl, refl)
built_answers s at (Remove name) b = option_here (calls.StoreRemove at name) (store_named s.stores name) s _ _ (λ st. (refl, refl)) (refl, refl)
built_answers s at (Set key meta body) b = (refl, refl)
built_answers s at (Del key) b = (refl, refl)
built_answers s at (Batch items) b = option_here (calls.Batch at items) (after_items at.store items (seq_of s.stores at.store) s.documents) s _ _ (λ after. (refl, refl)) (refl, refl)
built_answers s at (Get key) b = option_here (calls.Get at key) (doc_at s.documents at.store key) s _ _ (λ d. (refl, refl)) (refl, refl)
built_answers s at (BySeq seq) b = option_here (calls.BySeq at seq) (doc_numbered s.documents at.store seq) s _ _ (λ e. (refl, refl)) (refl, refl)
built_answers s at Commit b = either_here (calls.Commit at) (nothing_new s) s _ _ (refl, refl) (refl, refl)
built_answers s at Info b = (refl, refl)
built_answers s at verb b = absurd (false≢true b)

built_here : (s : State) (f : File) (at : StoreRef) (verb : Verb) (call : Call) → IsTrue (is_built_verb verb) → call_at at verb ≡ Some call → StaysHere call s (step_of s f call)
built_here s f at verb call b is =
    refused_here call (first_cause (causes s call)) s (refused_or (full s f call) s (answer s call))
    (refused_here call (full s f call) s (answer s call) (subst (IfCall s) is (built_answers s at verb b)))

-- ---- the lanes

store_is : (lane : Lane) (call : Call) (reply : Reply) (s : State) → (lane_after lane call reply s).at ≡ store_after lane.at reply
store_is lane call (replies.Store at) s = refl
store_is lane call replies.Snapped s = refl
store_is lane call reply s = refl

set_there : (xs : List StoreRef) (at : ℕ) (to x : StoreRef) → slice_get xs at ≡ Some x → slice_get (slice_set xs at to) at ≡ Some to
set_there [] at to x is = cc
set_there (y ∷ xs) zero to x is = refl
set_there (y ∷ xs) (suc at) to x is = set_there xs at to x is

set_other : (xs : List StoreRef) (at n : ℕ) (to : StoreRef) → n ≢ at → slice_get (slice_set xs at to) n ≡ slice_get xs n
set_other [] at n to apart = refl
set_other (y ∷ xs) zero zero to apart = absurd (apart refl)
set_other (y ∷ xs) zero (suc n) to apart = refl
set_other (y ∷ xs) (suc at) zero to apart = refl
set_other (y ∷ xs) (suc at) (suc n) to apart = set_other xs at n to (λ e. apart (ap suc e))

-- a lane at another store, the others as they were
lanes_after : (lanes : List StoreRef) (before : ℕ → Lane) (at : ℕ) (lane : Lane) (to : StoreRef) → at < 16 → to ≡ lane.at → ((n : ℕ) → n < 16 → slice_get lanes n ≡ Some (before n).at)
    → (n : ℕ) → n < 16 → slice_get (slice_set lanes at to) n ≡ Some (with_lane before at lane n).at
lanes_after lanes before at lane to there is were n low = by (n == at) refl where
  by : (b : Bool) → (n == at) ≡ b → slice_get (slice_set lanes at to) n ≡ Some (if b then lane else before n).at
  by true e = subst (λ m. slice_get (slice_set lanes at to) m ≡ Some lane.at) (sym (eqb-true n at e)) (set_there lanes at to (before at).at (were at there) ∙ ap Some is)
  by false e = set_other lanes at n to (eqb-false n at e) ∙ were n low

-- ---- a line

module _ (told : Bool) (old : Position) (file : Opened) (w : Session) (f : File) (line : Line) where
  abbrev lane_of : Lane
  lane_of = w.lanes line.lane

  module _ (call : Call) (is_call : call_at lane_of.at line.verb ≡ Some call) (built : IsTrue (is_built_verb line.verb)) where
    abbrev outcome : Outcome
    outcome = step_of w.state f call

    stays : StaysHere call w.state outcome
    stays = built_here w.state f lane_of.at line.verb call built is_call

    call_is : call_in w line ≡ Some call
    call_is = built_call lane_of w.copier line.verb built ∙ is_call

    is_turn : IsTurn w f line (turn_by_file w line call outcome).0 (turn_by_file w line call outcome).1
    is_turn =
        inl (ap (λ (o : Option Call). option_map_or (λ c. Some (turn_by_file w line c (outcome_of w f c))) o (turn_aside w line line.verb)) call_is
        ∙ ap (λ (b : Bool). Some (turn_by_file w line call (if b then refused_or (copier_failed w.copier) w.state outcome else outcome))) stays.0)

    leads_by : (at : StoreRef) (said : Said) → line.lane ≤ 15 → IsAt told old w f → Steps told call lane_of.at at file w.state f said
        → Leads told (record { file = file; lanes = slice_set old.lanes line.lane at }) w f line (record { lane = line.lane; place = file.held.place; said = said })
    leads_by at said low here steps = record {
      next = (turn_by_file w line call outcome).0;
      grown = steps.grown;
      told = (turn_by_file w line call outcome).1;
      turn = is_turn;
      grows = subst (λ (o : Option Call). FileAfter w.state f o outcome.1 steps.grown) (sym call_is) steps.grows;
      now = record {
        file = steps.now;
        lanes = lanes_after old.lanes w.lanes line.lane (lane_after lane_of call outcome.0 outcome.1) at (omega (arith, low)) (steps.at_is ∙ sym (store_is lane_of call outcome.0 outcome.1)) here.lanes;
        first_file = steps.now.stands.revision ∙ stays.1 ∙ sym here.file.stands.revision ∙ here.first_file;
      };
      same = λ tells. λ i. record { lane = line.lane; place = steps.now.stands.place i; said = steps.said_is tells i };
    }

  -- the store that stands in the lane's place is the lane's
  pub leads : (at none : StoreRef) (said : Said) (place : ℕ) → place ≡ file.held.place → IsTrue (is_built_verb line.verb) → line.lane ≤ 15 → IsAt told old w f
      → Answers told line.verb (slice_index_or old.lanes line.lane none) at old.file file said
      → Leads told (record { file = file; lanes = slice_set old.lanes line.lane at }) w f line (record { lane = line.lane; place = place; said = said })
  leads at none said place is built low here answers =
      let there : Answers told line.verb lane_of.at at old.file file said =
      subst (λ (before : StoreRef). Answers told line.verb before at old.file file said) (get_or_from_slice_get old.lanes line.lane lane_of.at none (here.lanes line.lane (omega (arith, low)))) answers in
      subst (λ (p : ℕ). Leads told (record { file = file; lanes = slice_set old.lanes line.lane at }) w f line (record { lane = line.lane; place = p; said = said })) (sym is)
      (leads_by there.call there.is_call built at said low here (there.steps w.state f here.file))
