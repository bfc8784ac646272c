-- Where the plain store takes memory, so that a step of it may fail for want of it.
use Rattle.std.specs.Prelude.{Bool, true, false, not, is_none}
use Rattle.forest_model.specs.Stores.{store_named}
use Rattle.forest_model.specs.State.{nothing_new}
use Rattle.forest_model.specs.Step.{is_at}
use Rattle.forest_model.specs.declared.call.Call.{Call}
use Rattle.forest_model.specs.declared.call.Call.TheVariants.{Set, Delete, Batch, Get, BySeq, Markers, StoreOpen, Commit, Rollback}
use Rattle.forest_model.specs.declared.state.State.{State}

-- a call that takes memory where nothing refuses it: it copies keys, documents, stores or numbers
abbrev pub takes_memory : State → Call → Bool
takes_memory s (Set at key meta body) = true
takes_memory s (Delete at key) = true
takes_memory s (Batch at items) = true
takes_memory s (Get at key) = true
takes_memory s (BySeq at seq) = true
takes_memory s Markers = true
takes_memory s (StoreOpen name read_only) = is_none (store_named s.stores name)
takes_memory s (Commit at) = not (nothing_new s)
takes_memory s (Rollback at number) = not (is_at s number)
takes_memory s call = false
