use Rattle.rst_cert_reader.proofs.Keeping.{stands_fed}
use Rattle.rst_cert_reader.proofs.reader.CertReader.feed.Goals as goal

pub returns-clause-fed : goal.returns-clause-fed
returns-clause-fed c = stands_fed c.args.self.now c.bytes.new.self c.args.piece.now c.bytes.result c.bytes.ensures.fed
