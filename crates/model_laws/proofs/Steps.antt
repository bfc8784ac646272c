-- What a step's causes and its answer make of the reply and the state.
use Rattle.std.proofs.Common.{◌≡◌, ℕ, Bool, true, false, cond, List, [], ◌∷◌, Option, Some, None, refl, sym, ap, ◌∙◌}
use Rattle.std.specs.Option.{is_none, option_map_or}
use Rattle.std.proofs.lemmas.Option.{none-some}
use Rattle.forest_model.specs.Limits.{is_wrong_key}
use Rattle.forest_model.specs.Documents.{doc_at}
use Rattle.forest_model.specs.Stores.{store_of}
use Rattle.forest_model.specs.Blocks.{File}
use Rattle.forest_model.specs.Step.{Outcome, ◌where_holds◌, first_cause, refused_or, causes, answer, full, step_of, found_of, found_at}
use Rattle.forest_model.specs.declared.call.StoreRef.{StoreRef}
use Rattle.forest_model.specs.declared.call.Call.{Call}
use Rattle.forest_model.specs.declared.call.Call.TheVariants.{Get}
use Rattle.forest_model.specs.declared.call.Reply.{Reply}
use Rattle.forest_model.specs.declared.call.Reply.TheVariants.{Document, Refused}
use Rattle.forest_model.specs.declared.documents.Doc.{Doc}
use Rattle.forest_model.specs.declared.refusal.Refusal.{Refusal}
use Rattle.forest_model.specs.declared.refusal.Refusal.TheVariants.{NotFound, KeyLength, NoStore}
use Rattle.forest_model.specs.declared.state.State.{State}
use Rattle.model_laws.specs.Laws.{reply_to, state_after}
use Rattle.model_laws.specs.Answered.{IsAnswered}

-- no cause of a list holds
abbrev pub NoneHolds : List (Option Refusal) → Type 0
NoneHolds [] = Unit {0}
NoneHolds (cause ∷ causes) = (cause ≡ None) × NoneHolds causes

pub none_holds : (causes : List (Option Refusal)) → first_cause causes ≡ None → NoneHolds causes
none_holds [] e = tt
none_holds (None ∷ causes) e = (refl, none_holds causes e)
none_holds (Some why ∷ causes) e = absurd (none-some why (sym e))

pub unmet : (why : Refusal) (b : Bool) → (why where_holds b) ≡ None → b ≡ false
unmet why true e = absurd (none-some why (sym e))
unmet why false e = refl

-- what holds of each refusal, and of the answer where no cause holds, holds of the step
refused_holds : (P : Outcome → Type 0) (o : Option Refusal) (s : State) (outcome : Outcome) → ((why : Refusal) → P (Refused why, s)) → (o ≡ None → P outcome) → P (refused_or o s outcome)
refused_holds P None s outcome h k = k refl
refused_holds P (Some why) s outcome h k = h why

pub step_holds : (P : Outcome → Type 0) (s : State) (file : File) (call : Call) → ((why : Refusal) → P (Refused why, s))
    → (NoneHolds (causes s call) → P (answer s call)) → P (step_of s file call)
step_holds P s file call h k =
    refused_holds P (first_cause (causes s call)) s (refused_or (full s file call) s (answer s call)) h
    (λ e. refused_holds P (full s file call) s (answer s call) h (λ f. k (none_holds (causes s call) e)))

-- the same of what holds of the state alone
pub step_keeps : (P : State → Type 0) (s : State) (file : File) (call : Call) → P s → (NoneHolds (causes s call) → P (answer s call).1) → P (state_after s file call)
step_keeps P s file call h k = step_holds (λ x. P x.1) s file call (λ why. h) k

-- a reply that is no refusal is the answer's, and no cause holds
answered : (o : Option Refusal) (s : State) (outcome : Outcome) (reply : Reply) → IsAnswered reply → (refused_or o s outcome).0 ≡ reply → (o ≡ None) × (refused_or o s outcome ≡ outcome)
answered None s outcome reply n e = (refl, refl)
answered (Some why) s outcome reply n e = absurd (n why e)

pub step_answers : (s : State) (file : File) (call : Call) (reply : Reply) → IsAnswered reply → reply_to s file call ≡ reply
    → NoneHolds (causes s call) × (step_of s file call ≡ answer s call)
step_answers s file call reply n e =
    let a = answered (first_cause (causes s call)) s (refused_or (full s file call) s (answer s call)) reply n e in
    (none_holds (causes s call) a.0, a.1 ∙ (answered (full s file call) s (answer s call) reply n (sym (ap (λ (o : Outcome). o.0) a.1) ∙ e)).1)

-- an answer that hangs on an option or a test
pub by_option : {X : Type 0} (P : Outcome → Type 0) (f : X → Outcome) (o : Option X) (other : Outcome) → ((x : X) → o ≡ Some x → P (f x)) → (o ≡ None → P other) → P (option_map_or f o other)
by_option P f None other h k = k refl
by_option P f (Some x) other h k = h x refl

pub by_test : (P : Outcome → Type 0) (b : Bool) (x y : Outcome) → P x → (b ≡ false → P y) → P (cond b x y)
by_test P true x y h k = h
by_test P false x y h k = k refl

-- the reply to a get, of what it depends on
abbrev pub get_reply : List ℕ → Bool → Bool → Option Doc → Reply
get_reply key wrong gone found = cond wrong (Refused KeyLength) (cond gone (Refused NoStore) (option_map_or (λ d. Document (found_of key d)) found (Refused NotFound)))

says : (s : State) (key : List ℕ) (wrong gone : Bool) (found : Option Doc)
    → (refused_or (first_cause ((KeyLength where_holds wrong) ∷ (NoStore where_holds gone) ∷ (NotFound where_holds is_none found) ∷ [])) s
    (option_map_or (λ d. found_at key d s) found (Refused NotFound, s))).0
    ≡ get_reply key wrong gone found
says s key true gone found = refl
says s key false true found = refl
says s key false false None = refl
says s key false false (Some d) = refl

pub get_says : (s : State) (file : File) (at : StoreRef) (key : List ℕ)
    → reply_to s file (Get at key) ≡ get_reply key (is_wrong_key key) (is_none (store_of s.stores at.store)) (doc_at s.documents at.store key)
get_says s file at key = says s key (is_wrong_key key) (is_none (store_of s.stores at.store)) (doc_at s.documents at.store key)
