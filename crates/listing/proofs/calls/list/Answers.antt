use Rattle.values.specs.Values.{binding}
use Rattle.listing.proofs.Listings.{reads_proper}
use Rattle.listing.proofs.calls.list.Goals as goal

pub returns-clause-reads_back : goal.returns-clause-reads_back
returns-clause-reads_back c = λ ms e h. reads_proper ms (c.in-Some.ensures.proper (binding ms) e) h

pub returns-in_err-put_listing-clause-reads_back : goal.returns-in_err-put_listing-clause-reads_back
returns-in_err-put_listing-clause-reads_back c = λ ms e h. reads_proper ms (c.in-Some.ensures.proper (binding ms) e) h
