mod SplitLists
