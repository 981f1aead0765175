use Rattle.std.proofs.Common.{◌≡◌, drop, option_map}
use Rattle.rst_cert_reader.specs.Keeping.{bytes_go}
use Rattle.rst_cert_reader.proofs.reader.CertReader.next_bytes.Given as goal

abbrev pub invariant-loop-byte : goal.invariant-loop-byte
invariant-loop-byte l = option_map (λ k. bytes_go k (drop l.byte-index l.bytes)) l.self ≡ option_map (λ k. bytes_go k l.bytes) l.initial.self
