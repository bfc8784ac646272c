use Rattle.std.proofs.Common.{◌≡◌, false, Some, None, refl, sym, ap, ◌∙◌}
use Rattle.std.specs.List.{find}
use Rattle.std.specs.Option.{option_map_or}
use Rattle.std.proofs.lemmas.Bool.{true≢false}
use Rattle.forest_model.specs.State.{retained}
use Rattle.forest_model.specs.Stores.{has_seq}
use Rattle.forest_model.specs.Session.{snapshot_of}
use Rattle.forest_model.specs.declared.call.Call.TheVariants.{SnapAt}
use Rattle.model_laws.specs.Answered.{IsAtSeq}
use Rattle.model_laws.specs.Reads.{SnapAtShows}
use Rattle.model_laws.proofs.Conditions.{some_is, at_seq_is}
use Rattle.model_laws.proofs.Free.{answered_free}
use Rattle.model_laws.proofs.Lists.{all_weaker, found_first, found_passes}
use Rattle.model_laws.proofs.Steps.{unmet}
use Rattle.model_laws.proofs.snapshots.Goals as goal

snap_at_shows : SnapAtShows
snap_at_shows s file at seq h =
    let id = at.store in
    let free = answered_free s file (SnapAt at seq) h in
    let found = (some_is (find (has_seq id seq) (retained s))).0 (unmet _ _ free.causes.1.0) in
    let first = found_first (has_seq id seq) (retained s) found.0 found.1 in (
      snapshot_of s found.0,
      ap (λ o. option_map_or (λ c. Some (snapshot_of s c)) o None) found.1,
      record {
        newer = first.front;
        commit = found.0;
        older = first.back;
        among = first.among;
        at_seq = (at_seq_is id seq found.0).0 (found_passes (has_seq id seq) (retained s) found.0 found.1);
        none_newer = all_weaker (λ c. has_seq id seq c ≡ false) (λ c. IsAtSeq id seq c → ⊥) (λ c e is. true≢false (sym ((at_seq_is id seq c).1 is) ∙ e)) first.front first.none;
        shows = (refl, refl, refl);
        place = refl;
      },
    )

pub returns-clause-commit : goal.returns-clause-commit
returns-clause-commit c = snap_at_shows
