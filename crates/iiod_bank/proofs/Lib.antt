mod FrontLemmas
mod JobLemmas
mod OwnLaws
mod UnplugLaws
mod FirstLemmas
