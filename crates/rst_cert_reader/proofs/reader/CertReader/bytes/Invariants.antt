use Rattle.std.proofs.Common.{◌≡◌, drop, option_map}
use Rattle.rst_cert_reader.specs.Keeping.{kept_all}
use Rattle.rst_cert_reader.proofs.reader.CertReader.bytes.Given as goal

abbrev pub invariant-loop-byte : goal.invariant-loop-byte
invariant-loop-byte l = option_map (λ k. kept_all k (drop l.byte-index l.piece)) l.self ≡ option_map (λ k. kept_all k l.piece) l.initial.self
