-- Request [4] of document 02, whole.
use mathlib.Core.List.{[]}
use Rattle.stations.proofs.WriterLaws.{named_made, written_known}
use Rattle.theorems.specs.Stations.{Exchange}
use Rattle.theorems.proofs.Written.{calls_kept, messages_kept}
use Rattle.theorems.proofs.Told.{kind_byte, of_cut, replies_told, replies_differ, past_unread}

pub exchange : Exchange
exchange =
    record {
      calls = calls_kept;
      plain = λ k r. named_made k r [];
      by_kind = written_known;
      messages = messages_kept;
      kind_byte = kind_byte;
      of_cut = of_cut;
      replies = replies_told;
      differ = replies_differ;
      past = past_unread;
    }
