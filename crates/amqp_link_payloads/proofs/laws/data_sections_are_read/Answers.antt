use Rattle.amqp_link_payloads.proofs.SectionLemmas.{contents_of-read, contents_of-some}
use Rattle.amqp_link_payloads.proofs.laws.data_sections_are_read.Goals as goal

pub returns-clause-read : goal.returns-clause-read
returns-clause-read c = contents_of-read

pub returns-clause-written : goal.returns-clause-written
returns-clause-written c = contents_of-some
