mod UpsertLines
