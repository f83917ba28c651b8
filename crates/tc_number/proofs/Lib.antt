mod NumberLemmas
mod PrintedLemmas
