-- `admission::grounds::job_allowed` meets its contract.
use borrow.Author.Tests.{le-leb, lt-leb}
use Rattle.admission.specs.Grounds.{job_allowed}
use Rattle.admission.proofs.grounds.job_allowed.Goals as goal

pub returns-then-job-ge1 : goal.returns-then-job-ge1
unfolding job_allowed
returns-then-job-ge1 c = rw (le-leb 1 _ c.if-job-ge1.true)

pub returns-else-job-ge1 : goal.returns-else-job-ge1
unfolding job_allowed
returns-else-job-ge1 c = rw (lt-leb 1 _ c.if-job-ge1.false)
