-- What an open file has in memory, the host and the view aside.
use Rattle.std.specs.Prelude.{ℕ, Option}
use Rattle.block_host.specs.declared.fresh.Fresh as Fresh
use Rattle.block_host.specs.declared.host.Host as Host
use Rattle.block_host.specs.declared.view.View as View
use Rattle.doc_stream.specs.OpenBlock.{OpenBlock}
use Rattle.forest_model.specs.declared.call.Limits.{Limits}
use Rattle.forest_model.specs.declared.refusal.Refusal.{Refusal}
use Rattle.forest_model.specs.declared.stored.Header.{Header}
use Rattle.forest_model.specs.declared.stored.Roots.{Roots}
use Rattle.kvs_names.specs.Table.{Table}
use Rattle.wal_index.specs.Index.{Index}
use Rattle.file_parts.specs.declared.parts.Parts.{Parts}

pub record Held : Type 0 where
  pub revision : ℕ
  pub generation : ℕ
  pub blocks : ℕ
  pub header : Header
  pub header_at : ℕ
  pub names : Table
  pub wal : Index
  pub roots : Roots
  pub tail : OpenBlock
  pub loose : ℕ
  pub live : ℕ
  pub limits : Limits
  pub place : ℕ
  pub next_commit : ℕ
  pub next_ticket : ℕ
  pub copying : Option (ℕ × ℕ)
  pub floor : ℕ
  pub stopped : Option ℕ
  pub left : Option Refusal

abbrev pub held : {H V F : Type 0} {h : Host.Ghosts H V F} {v : View.Ghosts V} {f : Fresh.Ghosts F} → Parts H V F h v f → Held
held p = record {
  revision = p.revision;
  generation = p.generation;
  blocks = p.blocks;
  header = p.header;
  header_at = p.header_at;
  names = p.names;
  wal = p.wal;
  roots = p.roots;
  tail = p.tail;
  loose = p.loose;
  live = p.live;
  limits = p.limits;
  place = p.place;
  next_commit = p.next_commit;
  next_ticket = p.next_ticket;
  copying = p.copying;
  floor = p.floor;
  stopped = p.stopped;
  left = p.left;
}
