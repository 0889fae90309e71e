use Rattle.lines.proofs.Decoded.{reads, only, writes, completes, stays_refused}
use Rattle.lines.proofs.Payloads.{message_back, message_only, text_back, band_back}
use Rattle.lines.proofs.decode.decoding_inverts_encoding.Goals as goal

pub returns : goal.returns
returns c =
    record {
      inverse = record { reads = reads; only = only; writes = writes; completes = completes; stays_refused = stays_refused };
      taken_off = record { messages = message_back; only_messages = message_only; texts = text_back; bands = band_back };
    }
