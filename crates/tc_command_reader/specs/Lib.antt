pub mod UpsertLine
